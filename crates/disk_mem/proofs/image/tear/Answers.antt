use Rattle.std.proofs.Common.{List, ℕ, ◌+◌, ◌/◌, ◌%◌, nat_eq, length, drop, ◌∙◌, ap, subst, arith}
use Rattle.std.proofs.lemmas.List.{take_rest}
use Rattle.disk_trait.specs.Disk.{overwritten}
use Rattle.disk_mem.specs.Images.{IsPiece, inside}
use Rattle.disk_mem.proofs.image.tear.Goals as goal

pub returns : goal.returns
returns c =
    let at = c.args.at in
    let text = c.args.text.now in
    let places = length text + 1 in
    let piece = c.in_ok-piece.piece.items in
    let stands = subst (λ (l : List ℕ). IsPiece (drop at l) text (c.args.number % places) (nat_eq (c.args.number / places % 2) 1) piece) c.deref.ensures.value (subst (λ (l : List ℕ). IsPiece l text (c.args.number % places) (nat_eq (c.args.number / places % 2) 1) piece) (take_rest c.deref.result.now at) c.in_ok-piece.ensures) in
    let written = c.in_ok-overwrite.ensures.ok ∙ ap (λ (l : List ℕ). overwritten c.args.image.now.items at l) c.deref-2.ensures.value in
    inside piece (omega (arith, c.if-place-len.false)) stands written
