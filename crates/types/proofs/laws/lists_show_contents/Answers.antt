use Rattle.types.proofs.Lists.{shown-held_by, held_by-slice_set, by_number-slice_set, by_number-append-replicate, whole_array-by_number}
use Rattle.types.proofs.laws.lists_show_contents.Goals as goal

pub returns : goal.returns
returns c = record {
  shown = shown-held_by;
  written = held_by-slice_set;
  assigned = λ slots x v d. by_number-slice_set d slots x v;
  arrays = whole_array-by_number;
  slots = λ slots n d. by_number-append-replicate d slots n;
}
