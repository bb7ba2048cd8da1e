-- What puts, adds, dels and gets answer, worked out. Beside each history stands one that is refused.
use Rattle.std.proofs.Common.{◌≡◌, List, [], ◌∷◌, refl, ap, codes, arith}
use Rattle.blsm_model.specs.declared.op.Op.TheVariants.{Put, Add, Del, Get}
use Rattle.blsm_model.specs.declared.history.Reply.{Reply}
use Rattle.blsm_model.specs.declared.history.Reply.TheVariants.{Done, Is, Absent}
use Rattle.blsm_model.specs.declared.history.Entry.{Entry}
use Rattle.blsm_model.specs.Legal.{IsLegal}
use Rattle.blsm_model.proofs.ExampleWords.{a, by, of, fresh, told}

-- what a last get answers, after a put, a get and a del
abbrev put_get_del_then : Reply → List Entry
put_get_del_then reply =
    by 0 (Put a (of 5 (codes "hi"))) Done ∷ by 0 (Get a) (Is (of 5 (codes "hi"))) ∷ by 0 (Del a) Done ∷ by 0 (Get a) reply ∷ []

put_get_del_get : IsLegal fresh [] (put_get_del_then Absent)
put_get_del_get = ((refl, refl), ((refl, refl), ((refl, refl), ((refl, refl), tt))))

-- the del isn't forgotten
del_forgotten : IsLegal fresh [] (put_get_del_then (Is (of 5 (codes "hi")))) → ⊥
del_forgotten legal = let wrong : Is (of 5 (codes "hi")) ≡ Absent = legal.1.1.1.0.1 in cc

-- a put sets both parts
put_over_put : IsLegal fresh [] (by 0 (Put a (of 5 (codes "hi"))) Done ∷ by 0 (Put a (of 6 [])) Done ∷ by 0 (Get a) (Is (of 6 [])) ∷ [])
put_over_put = ((refl, refl), ((refl, refl), ((refl, refl), tt)))

text_kept : IsLegal fresh [] (by 0 (Put a (of 5 (codes "hi"))) Done ∷ by 0 (Put a (of 6 [])) Done ∷ by 0 (Get a) (Is (of 6 (codes "hi"))) ∷ []) → ⊥
text_kept legal = let wrong : Is (of 6 (codes "hi")) ≡ Is (of 6 []) = legal.1.1.0.1 in absurd (omega (arith, ap told wrong))

-- an add on an absent key
add_on_absent : IsLegal fresh [] (by 0 (Add a 7) Done ∷ by 0 (Get a) (Is (of 7 [])) ∷ [])
add_on_absent = ((refl, refl), ((refl, refl), tt))

add_lost : IsLegal fresh [] (by 0 (Add a 7) Done ∷ by 0 (Get a) Absent ∷ []) → ⊥
add_lost legal = let wrong : Absent ≡ Is (of 7 []) = legal.1.0.1 in cc

-- an add leaves the text of a put
add_over_put : IsLegal fresh [] (by 0 (Put a (of 5 (codes "hi"))) Done ∷ by 0 (Add a 7) Done ∷ by 0 (Get a) (Is (of 12 (codes "hi"))) ∷ [])
add_over_put = ((refl, refl), ((refl, refl), ((refl, refl), tt)))

-- sums of counts are modulo 2 ^ 64
sum_wraps : IsLegal fresh [] (by 0 (Add a 18446744073709551615) Done ∷ by 0 (Add a 2) Done ∷ by 0 (Get a) (Is (of 1 [])) ∷ [])
sum_wraps = ((refl, refl), ((refl, refl), ((refl, refl), tt)))

sum_saturates : IsLegal fresh [] (by 0 (Add a 18446744073709551615) Done ∷ by 0 (Add a 2) Done ∷ by 0 (Get a) (Is (of 18446744073709551615 [])) ∷ []) → ⊥
sum_saturates legal = let wrong : Is (of 18446744073709551615 []) ≡ Is (of 1 []) = legal.1.1.0.1 in absurd (omega (arith, ap told wrong))

-- a del with an add after it leaves nothing of the put
del_then_add : IsLegal fresh [] (by 0 (Put a (of 100 (codes "old"))) Done ∷ by 0 (Del a) Done ∷ by 0 (Add a 7) Done ∷ by 0 (Get a) (Is (of 7 [])) ∷ [])
del_then_add = ((refl, refl), ((refl, refl), ((refl, refl), ((refl, refl), tt))))

put_under_del : IsLegal fresh [] (by 0 (Put a (of 100 (codes "old"))) Done ∷ by 0 (Del a) Done ∷ by 0 (Add a 7) Done ∷ by 0 (Get a) (Is (of 107 (codes "old"))) ∷ []) → ⊥
put_under_del legal = let wrong : Is (of 107 (codes "old")) ≡ Is (of 7 []) = legal.1.1.1.0.1 in absurd (omega (arith, ap told wrong))

-- two callers put, and the second gets what was put last, in either order; it never gets nothing
second_put_last : IsLegal fresh [] (by 0 (Put a (of 1 [])) Done ∷ by 1 (Put a (of 2 [])) Done ∷ by 1 (Get a) (Is (of 2 [])) ∷ [])
second_put_last = ((refl, refl), ((refl, refl), ((refl, refl), tt)))

first_put_between : IsLegal fresh [] (by 1 (Put a (of 2 [])) Done ∷ by 0 (Put a (of 1 [])) Done ∷ by 1 (Get a) (Is (of 1 [])) ∷ [])
first_put_between = ((refl, refl), ((refl, refl), ((refl, refl), tt)))

never_none : IsLegal fresh [] (by 0 (Put a (of 1 [])) Done ∷ by 1 (Put a (of 2 [])) Done ∷ by 1 (Get a) Absent ∷ []) → ⊥
never_none legal = let wrong : Absent ≡ Is (of 2 []) = legal.1.1.0.1 in cc

-- a store that was opened with a pair has it
opened_with : IsLegal fresh ((a, of 3 []) ∷ []) (by 0 (Add a 4) Done ∷ by 0 (Get a) (Is (of 7 [])) ∷ [])
opened_with = ((refl, refl), ((refl, refl), tt))

opened_with_nothing : IsLegal fresh ((a, of 3 []) ∷ []) (by 0 (Get a) Absent ∷ []) → ⊥
opened_with_nothing legal = let wrong : Absent ≡ Is (of 3 []) = legal.0.1 in cc
