use Rattle.std.proofs.Common.{◌≡◌, ◌≤◌, Option, None, Some, length, inl, ⊎_elim, is_some, not, true, false, refl, sym, ◌∙◌, ap, arith}
use Rattle.std.proofs.lemmas.Grind.{common_steps}
use Rattle.std.proofs.lemmas.Bool.Decides.{nat_tests}
use Rattle.std.proofs.lemmas.List.{get_or_read}
use Rattle.std.proofs.Math.ListN.{length-set}
use Rattle.disk_mem.specs.Recorded.{Recorded}
use Rattle.disk_mem.specs.Places.{disk_under, all_noted}
use Rattle.disk_mem.specs.Stock.{shelved}
use Rattle.disk_mem.proofs.PlaceLemmas.{under_nowhere, all_placed_push, length-all_noted}
use Rattle.disk_mem.proofs.ShelfLemmas.{stands_at, takes_at, notes_at}
use Rattle.disk_mem.proofs.Noted.{went_well}
use Rattle.disk_mem.proofs.stock.Stock.fetch.Goals as goal

none_is : (d : Option Recorded) → is_some d ≡ false → d ≡ None
none_is None none = refl
none_is (Some x) none = absurd (cc)

no_disk : (d : Option Recorded) → d ≡ None → is_some d ≡ true → ⊥
no_disk None none some = absurd (cc)
no_disk (Some x) none some = absurd (cc)

pub returns-in_default-clause-cause : goal.returns-in_default-clause-cause
returns-in_default-clause-cause c =
    let s = shelved c.args.self.now in
    inl (under_nowhere c.args.name.now s.names s.disks c.in_default.ensures.none)

pub returns-then-is_none-clause-cause : goal.returns-then-is_none-clause-cause
returns-then-is_none-clause-cause c =
    let s = shelved c.args.self.now in
    let place = c.in-Some.ensures.place in
    inl (stands_at c.args.name.now s c.in-Some.i place ∙ sym (get_or_read s.disks c.in-Some.i c.index.result.now place.1 c.index.ensures None)
    ∙ none_is c.index.result.now (c.is_none.ensures ∙ ap not c.if-is_none.true))

pub invariant_of-self : goal.invariant_of-self
invariant_of-self c =
    let s = c.args.self.now in
    let room = c.has_room.ensures.yes c.if-not-has_room.false in
    let pushed = went_well c.push.result _ _ _ _ c.push.ensures.items c.push.ensures.full (λ full. omega (arith, full, room.1, s.reserved)) in
    record {
      paired = omega (arith, s.paired, ap length c.take_at-disk.ensures.gone, length-set {A = Option Recorded});
      reserved = omega (arith, s.reserved, c.push.ensures.capacity);
      full_before = λ some. absurd (omega (arith, some, room.0));
      placed = rw pushed (all_placed_push (length s.names.items) s.fetched.items (Some (c.in-Some.i, c.args.fresh)) s.placed (omega (arith, c.in-Some.ensures.place.1, s.paired), tt));
    }

pub returns-clause-call : goal.returns-clause-call
returns-clause-call c =
    let s = shelved c.args.self.now in
    let name = c.args.name.now in
    let room = c.has_room.ensures.yes c.if-not-has_room.false in
    let pushed = went_well c.push.result _ _ _ _ c.push.ensures.items c.push.ensures.full (λ full. omega (arith, full, room.1, c.args.self.now.reserved)) in
    record {
      count = rw c.without_faults.ensures refl;
      taken = λ _. takes_at name s _ _ c.take_at-disk.result _ c.in-Some.i c.in-Some.ensures.place c.take_at-disk.ensures.gone c.take_at-disk.ensures.disk c.without_faults.ensures;
      err = tt;
      noted = λ _ _. notes_at name s _ c.args.fresh c.in-Some.i c.in-Some.ensures.place pushed room.0;
      told = record { disks = refl; fetches = refl };
      no_fall = omega arith;
      stands = refl;
      failed = λ failed. absurd (cc failed);
      one_fault = omega arith;
    }

pub returns-clause-given : goal.returns-clause-given
returns-clause-given c =
    (c.take_at-disk.result, stands_at c.args.name.now (shelved c.args.self.now) c.in-Some.i c.in-Some.ensures.place ∙ c.take_at-disk.ensures.disk, c.without_faults.ensures)

pub returns-clause-fails : goal.returns-clause-fails
returns-clause-fails c = λ cause.
    let s = shelved c.args.self.now in
    let place = c.in-Some.ensures.place in
    let room = c.has_room.ensures.yes c.if-not-has_room.false in
    let some : is_some c.index.result.now ≡ true = c.is_none.ensures ∙ ap not c.if-is_none.false in
    let stands = stands_at c.args.name.now s c.in-Some.i place ∙ sym (get_or_read s.disks c.in-Some.i c.index.result.now place.1 c.index.ensures None) in
    absurd (⊎_elim (λ (none : disk_under s.names s.disks c.args.name.now ≡ None). no_disk c.index.result.now (sym stands ∙ none) some)
    (λ (full : s.room ≤ length (all_noted s.names s.fetched s.past)). let none : ⊥ = omega (arith, full, room.0, room.1, length-all_noted s.names s.fetched s.past) in none) cause)
