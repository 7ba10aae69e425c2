-- All threads can share the flat code of a program.
use Rattle.std.proofs.Crossing.{crosses}
use denote.Param.Send.{IsSync, sendable}
use denote.Param.SendFields.{declared_sync, variants_sync}
use denote.Ref.{NamedLft}
use Rattle.serial_run.specs.contracts.code.Flat as Flat
use Rattle.serial_run.specs.contracts.code.Line as Line
use Rattle.serial_run.specs.contracts.code.Instruction as Instruction
use Rattle.serial_run.specs.contracts.safe.Limits as Limits
use Rattle.plain_code.specs.contracts.pieces.ProgramCode as ProgramCode
use Rattle.serial_run.proofs.code.PrintedNumber.TheSendSync as OfTold
use Rattle.serial_run.proofs.code.Fused.TheSendSync as OfFused
use Rattle.plain_code.proofs.pieces.BodyCode.TheSendSync as OfBody
use Rattle.finish_scope.proofs.Crossing.{code_sync, stmt_sync, truth_sync}

-- A search through all kinds of instructions at once ends at its limit, so each is searched for by itself, in order.
instruction_sync : (κ : NamedLft) → IsSync (Instruction.the_row κ)
instruction_sync κ =
    variants_sync (Instruction.enum κ) (
      search (sendable, crosses) depth 30 fits 5000,
      (
        search (sendable, crosses) depth 30 fits 5000,
        (
          search (sendable, crosses) depth 30 fits 5000,
          (
            search (sendable, crosses) depth 30 fits 5000,
            (
              search (sendable, crosses) depth 30 fits 5000,
              (
                search (sendable, crosses) depth 30 fits 5000,
                (
                  search (sendable, crosses) depth 30 fits 5000,
                  (
                    search (sendable, crosses) depth 30 fits 5000,
                    (
                      search (sendable, crosses) depth 30 fits 5000,
                      (
                        search (sendable, crosses) depth 30 fits 5000,
                        (
                          search (sendable, crosses) depth 30 fits 5000,
                          (
                            search (sendable, crosses) depth 30 fits 5000,
                            (
                              search (sendable, crosses) depth 30 fits 5000,
                              (
                                search (sendable, crosses) depth 30 fits 5000,
                                (
                                  tt,
                                  (
                                    search (sendable, crosses) depth 30 fits 5000,
                                    (
                                      search (sendable, crosses) depth 30 fits 5000,
                                      (
                                        search (sendable, crosses) depth 30 fits 5000,
                                        (
                                          search (sendable, crosses, OfTold.the_sync) depth 40 fits 20000,
                                          (
                                            search (sendable, crosses) depth 30 fits 5000,
                                            (
                                              search (sendable, crosses) depth 30 fits 5000,
                                              (
                                                search (sendable, crosses) depth 30 fits 5000,
                                                (
                                                  search (sendable, crosses) depth 30 fits 5000,
                                                  (
                                                    search (sendable, crosses, stmt_sync, truth_sync) depth 40 fits 20000,
                                                    (
                                                      search (sendable, crosses) depth 30 fits 5000,
                                                      (
                                                        search (sendable, crosses) depth 30 fits 5000,
                                                        (
                                                          search (sendable, crosses) depth 40 fits 20000,
                                                          (
                                                            search (sendable, crosses) depth 30 fits 5000,
                                                            (
                                                              search (sendable, crosses) depth 30 fits 5000,
                                                              (
                                                                search (sendable, crosses) depth 30 fits 5000,
                                                                (tt, tt),
                                                              ),
                                                            ),
                                                          ),
                                                        ),
                                                      ),
                                                    ),
                                                  ),
                                                ),
                                              ),
                                            ),
                                          ),
                                        ),
                                      ),
                                    ),
                                  ),
                                ),
                              ),
                            ),
                          ),
                        ),
                      ),
                    ),
                  ),
                ),
              ),
            ),
          ),
        ),
      ),
    )

line_sync : (κ : NamedLft) → IsSync (Line.the_row κ)
line_sync κ = declared_sync (Line.the_type κ) (search sendable depth 20, (instruction_sync κ, tt))

limits_sync : (κ : NamedLft) → IsSync (Limits.the_row κ)
limits_sync κ = declared_sync (Limits.the_type κ) (search (sendable, crosses, code_sync) depth 60 fits 50000)

flat_sync : (κ : NamedLft) → IsSync (Flat.the_row κ)
flat_sync κ =
    declared_sync (Flat.the_type κ) (
      search (sendable, crosses, line_sync) depth 60 fits 50000,
      (
        search (sendable, crosses) depth 60 fits 50000,
        (search (sendable, crosses, OfFused.the_sync) depth 60 fits 50000, (limits_sync κ, tt)),
      ),
    )

pub program_code_sync : (κ : NamedLft) → IsSync (ProgramCode.the_row κ)
program_code_sync κ =
    declared_sync (ProgramCode.the_type κ) (
      search (sendable, crosses, flat_sync) depth 60 fits 50000,
      (
        search (sendable, crosses) depth 60 fits 50000,
        (search (sendable, crosses, OfBody.the_sync) depth 60 fits 50000, tt),
      ),
    )
