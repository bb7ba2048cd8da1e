use Rattle.std.proofs.Common.{option_map, codes, ap, ◌∙◌}
use Rattle.clap.specs.Words.{found_of}
use Rattle.clap.proofs.WalkLemmas.{first_value-rows}
use Rattle.program_words.specs.Words.{settle}
use Rattle.program_words.proofs.words.settle_of.Goals as goal

pub returns-in-Some : goal.returns-in-Some
returns-in-Some c = ap (option_map settle) (c.in-Some.ensures ∙ first_value-rows (found_of c.args.matches.now) (codes "FILE"))

pub returns-in-None : goal.returns-in-None
returns-in-None c = ap (option_map settle) (c.in-None.ensures ∙ first_value-rows (found_of c.args.matches.now) (codes "FILE"))
