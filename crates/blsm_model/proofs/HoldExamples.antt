-- What holds, nexts and drops answer, worked out. Beside each history stands one that is refused.
use Rattle.std.proofs.Common.{◌≡◌, List, [], ◌∷◌, refl, ap, lit≤, arith}
use Rattle.blsm_model.specs.declared.op.Op.TheVariants.{Put, Del, Get, Hold, Next, Release, Work}
use Rattle.blsm_model.specs.declared.history.Reply.{Reply}
use Rattle.blsm_model.specs.declared.history.Reply.TheVariants.{Done, Absent, Held, Rows, NoHold, Did}
use Rattle.blsm_model.specs.declared.history.Entry.{Entry}
use Rattle.blsm_model.specs.Legal.{IsLegal}
use Rattle.blsm_model.proofs.ExampleWords.{a, b, c, by, of, row, fresh, told}

-- the rows of a hold are those of its moment, while writes and work go on
hold_over_writes : IsLegal fresh [] (
    by 0 (Put a (of 1 [])) Done ∷ by 0 (Put b (of 2 [])) Done ∷ by 0 (Work 1000) (Did 6) ∷ by 0 (Hold a c) Held
    ∷ by 0 (Put a (of 9 [])) Done ∷ by 0 (Del b) Done ∷ by 0 (Work 1000) (Did 6)
    ∷ by 0 (Next 32) (Rows (row a 1 ∷ row b 2 ∷ [])) ∷ by 0 (Next 32) (Rows []) ∷ by 0 (Get b) Absent ∷ by 0 Release Done ∷ by 0 (Next 1) NoHold ∷ [])
hold_over_writes = (
  (refl, refl),
  (
    (refl, refl),
    (
      (refl, (6, lit≤ tt, refl)),
      (
        (refl, refl),
        (
          (refl, refl),
          (
            (refl, refl),
            (
              (refl, (6, lit≤ tt, refl)),
              ((refl, refl), ((refl, refl), ((refl, refl), ((refl, refl), ((refl, refl), tt))))),
            ),
          ),
        ),
      ),
    ),
  ),
)

-- what a next answers after a hold and a put
abbrev hold_put_then : Reply → List Entry
hold_put_then reply = by 0 (Put a (of 1 [])) Done ∷ by 0 (Hold a c) Held ∷ by 0 (Put a (of 9 [])) Done ∷ by 0 (Next 32) reply ∷ []

hold_put_next : IsLegal fresh [] (hold_put_then (Rows (row a 1 ∷ [])))
hold_put_next = ((refl, refl), ((refl, refl), ((refl, refl), ((refl, refl), tt))))

hold_follows_writes : IsLegal fresh [] (hold_put_then (Rows (row a 9 ∷ []))) → ⊥
hold_follows_writes legal = let wrong : Rows (row a 9 ∷ []) ≡ Rows (row a 1 ∷ []) = legal.1.1.1.0.1 in absurd (omega (arith, ap told wrong))

-- nexts give the rows one after another, in key order, each once
next_by_next : IsLegal fresh [] (by 0 (Put b (of 2 [])) Done ∷ by 0 (Put a (of 1 [])) Done ∷ by 0 (Hold a c) Held ∷ by 0 (Next 1) (Rows (row a 1 ∷ [])) ∷ by 0 (Next 1) (Rows (row b 2 ∷ [])) ∷ [])
next_by_next = ((refl, refl), ((refl, refl), ((refl, refl), ((refl, refl), ((refl, refl), tt)))))

row_given_twice : IsLegal fresh [] (by 0 (Put b (of 2 [])) Done ∷ by 0 (Put a (of 1 [])) Done ∷ by 0 (Hold a c) Held ∷ by 0 (Next 1) (Rows (row a 1 ∷ [])) ∷ by 0 (Next 1) (Rows (row a 1 ∷ [])) ∷ []) → ⊥
row_given_twice legal = let wrong : Rows (row a 1 ∷ []) ≡ Rows (row b 2 ∷ []) = legal.1.1.1.1.0.1 in absurd (omega (arith, ap told wrong))

-- the second hold replaces the first; no key is from c on and below a
second_hold : IsLegal fresh [] (
    by 0 (Put a (of 1 [])) Done ∷ by 0 (Put b (of 2 [])) Done ∷ by 0 (Hold a c) Held ∷ by 0 (Hold b c) Held ∷ by 0 (Next 32) (Rows (row b 2 ∷ []))
    ∷ by 0 (Hold c a) Held ∷ by 0 (Next 1) (Rows []) ∷ [])
second_hold = ((refl, refl), ((refl, refl), ((refl, refl), ((refl, refl), ((refl, refl), ((refl, refl), ((refl, refl), tt)))))))

-- the range is without its high key
high_key_in : IsLegal fresh [] (by 0 (Put c (of 3 [])) Done ∷ by 0 (Hold a c) Held ∷ by 0 (Next 32) (Rows (row c 3 ∷ [])) ∷ []) → ⊥
high_key_in legal = let wrong : Rows (row c 3 ∷ []) ≡ Rows [] = legal.1.1.0.1 in cc

-- each caller has a hold of its own
others_hold : IsLegal fresh [] (by 0 (Hold a c) Held ∷ by 1 Release NoHold ∷ by 0 Release Done ∷ by 0 Release NoHold ∷ [])
others_hold = ((refl, refl), ((refl, refl), ((refl, refl), ((refl, refl), tt))))

others_hold_dropped : IsLegal fresh [] (by 0 (Hold a c) Held ∷ by 1 Release Done ∷ []) → ⊥
others_hold_dropped legal = let wrong : Done ≡ NoHold = legal.1.0.1 in cc
