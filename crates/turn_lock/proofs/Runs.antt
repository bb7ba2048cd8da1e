-- What holds of the lock over the small value add up to.
use Rattle.std.proofs.lemmas.Bool.Decides.{nat_tests}
use Rattle.std.proofs.lemmas.Grind.{common_steps}
use Rattle.std.proofs.Common.{◌≡◌, ◌∙◌, ℕ, suc, ◌+◌, ◌≤◌, List, [], ◌∷◌, ◌++◌, ap, sym, subst, arith}
use Rattle.blsm_model.specs.declared.history.Entry.{Entry}
use Rattle.blsm_model.specs.Book.{noted}
use Rattle.blsm_model.specs.Facts.{Eases, Facts}
use Rattle.turn_lock.specs.Plays.{renewed}
use Rattle.turn_lock.specs.Views.{Each, Fits}
use Rattle.turn_lock.specs.Callers.{Held, HasTaken}
use Rattle.turn_lock.specs.Tallies.{tally_facts, work_by, works_by, HasRoomFor, Noted}
use Rattle.turn_lock.specs.declared.tally.Tally.{Tally}

abbrev pub told : Tally → Facts
told t = tally_facts t.annals

-- the room of a seat for one entry less, by what was known of it
room_left : (a b v : Tally) (seat n k : ℕ) → Eases ((told a).part seat) ((told b).part seat) → v.annals ≡ noted b.annals (work_by seat k) → n + 1 ≤ ((told a).part seat).room.0 → n ≤ ((told v).part seat).room.0
room_left a b v seat n k h1 h2 h3 = grind (arith, common_steps, nat_tests)

pub room_after_one : (st : Tally → Tally → Type 0) (c t d : Held Tally) (b v : Tally) (n k : ℕ) → HasTaken told st c b t → d.number ≡ t.number → d.me.0.own ≡ renewed told v t.me.0.own
    → v.annals ≡ noted b.annals (work_by t.number k) → HasRoomFor told (n + 1) c → HasRoomFor told n d
room_after_one st c t d b v n k taken number own works room =
    let is = taken.1 in
    let same : t.number ≡ c.number = ap (λ (h : Held Tally). h.number) is in
    let fits : Fits told c.me.0.seen b (c.number, room.0) = (subst (λ (l : List (ℕ × Tally)). Each (Fits told c.me.0.seen b) l) room.2 taken.2.own).0 in
    let now : d.number ≡ c.number = number ∙ same in
    let works' : v.annals ≡ noted b.annals (work_by c.number k) = works ∙ ap (λ (m : ℕ). noted b.annals (work_by m k)) same in (
      v,
      room.1,
      own ∙ ap (λ (h : Held Tally). renewed told v h.me.0.own) is ∙ ap (renewed told v) room.2 ∙ ap (λ (m : ℕ). (m, v) ∷ room.1) (sym now),
      subst (λ (m : ℕ). n ≤ ((told v).part m).room.0) (sym now) (room_left room.0 b v c.number n k fits.0.part works' room.3),
    )

module _ {V : Type 0} (f : V → Facts) where
  pub noted_more : (c d e : Held V) (xs ys : List Entry) → Noted f c xs d → Noted f d ys e → Noted f c (xs ++ ys) e
  noted_more c d e xs ys h1 h2 = grind (arith, common_steps, nat_tests)

-- one entry more
pub works_more : (seat n : ℕ) → works_by seat n ++ work_by seat n ∷ [] ≡ works_by seat (n + 1)
works_more seat n = let e : suc n ≡ n + 1 = omega arith in ap (works_by seat) e
