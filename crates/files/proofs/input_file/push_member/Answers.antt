use Rattle.files.proofs.input_file.push_member.Goals as goal

pub returns : goal.returns
returns c = c.write.ensures.bytes
