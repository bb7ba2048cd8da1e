use Rattle.std.proofs.Common.{◌≡◌, ◌-◌, ℕ, List, Ok, length, drop, subst, ◌∙◌, arith, length-drop}
use Rattle.std.proofs.lemmas.List.{length-take}
use Rattle.refusal.specs.declared.Failed.{Failed}
use Rattle.text_io.specs.Reading.{piece_length}
use Rattle.text_io.specs.Text.{ReadsSome}
use Rattle.text_io.proofs.LinesLemmas.{more_ahead}
use Rattle.text_io.proofs.lines.Lines.read_ahead.Goals as goal
use borrow.Rule.Slice.PartMut.{mid_of}

-- how long the part behind the first bytes is
part_length : (k : ℕ) (moved piece : List ℕ) → length moved ≡ length piece → length piece ≡ piece_length → length (mid_of k (piece_length - k) moved) ≡ piece_length - k
part_length k moved piece same whole = omega (arith, length-take (piece_length - k) (drop k moved), length-drop k moved)

pub returns : goal.returns
returns g c =
    let i = c.self.inside in
    let room = part_length (i.end - i.from) c.copy_within.new.self i.piece c.copy_within.auto.self c.self.told in
    let reads = subst (λ (n : ℕ). ReadsSome {E = Failed} (Ok c.in_ok-n.n) n c.read.new.into (g.S.Source.state c.args.source.now) (g.S.Source.state c.read.new.self)) room c.in_ok-n.ensures in
    more_ahead i.piece c.copy_within.new.self c.read.new.into i.start i.stop i.from i.end i.longest c.in_ok-n.n c.self.view_is c.copy_within.ensures.after reads (c.read.auto.into ∙ room) (omega arith) (omega arith) c.self.told c.requires (omega arith)
