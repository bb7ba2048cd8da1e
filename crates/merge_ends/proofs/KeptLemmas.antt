-- What a merge writes of entries, one by one.
use Rattle.std.proofs.Common.{◌≡◌, Bool, true, false, [], ◌∷◌, ◌++◌, Option, Some, None, refl, ap, sym, subst}
use Rattle.std.specs.Ordering.{is_lt}
use Rattle.std.specs.declared.cmp.Ordering.TheVariants.{Less}
use Rattle.blsm_model.specs.declared.key.Key.{Key}
use Rattle.blsm_model.specs.declared.row.Value.{Value}
use Rattle.record_delta.specs.declared.record.Rec.{Rec}
use Rattle.record_delta.specs.declared.record.Rec.TheVariants.{Base}
use Rattle.record_delta.specs.Records.{settle}
use Rattle.record_delta.specs.Entries.{Entries, settled_base, settled_entries, is_above}
use Rattle.merge_step.proofs.MergedLemmas.{turned}
use Rattle.merge_step.proofs.TakenLemmas.{below_above}
use Rattle.merge_ends.specs.Output.{EndBy, kept}
use Rattle.merge_ends.proofs.GroupLemmas.{ends_more}

-- one entry more
settled_more : (entries : Entries) (key : Key) (rec : Rec) → settled_entries (entries ++ (key, rec) ∷ []) ≡ settled_entries entries ++ settled_entries ((key, rec) ∷ [])
settled_more [] key rec = refl
settled_more (e ∷ es) key rec = by_value (settle e.1) (settled_more es key rec)
  where
    by_value : (value : Option Value) → settled_entries (es ++ (key, rec) ∷ []) ≡ settled_entries es ++ settled_entries ((key, rec) ∷ [])
        → settled_base e.0 value (settled_entries (es ++ (key, rec) ∷ [])) ≡ settled_base e.0 value (settled_entries es) ++ settled_entries ((key, rec) ∷ [])
    by_value None rest = rest
    by_value (Some value) rest = ap (λ l. (e.0, Base value) ∷ l) rest

pub kept_more : (settles : Bool) (entries : Entries) (key : Key) (rec : Rec) → kept settles (entries ++ (key, rec) ∷ []) ≡ kept settles entries ++ kept settles ((key, rec) ∷ [])
kept_more false entries key rec = refl
kept_more true entries key rec = settled_more entries key rec

pub kept_none : (settles : Bool) → kept settles [] ≡ []
kept_none false = refl
kept_none true = refl

append_none : (entries : Entries) → entries ++ [] ≡ entries
append_none [] = refl
append_none (e ∷ es) = ap (λ l. e ∷ l) (append_none es)

pub same_none : (entries : Entries) → entries ≡ entries ++ []
same_none entries = sym (append_none entries)

ends_further : (at : Option Key) (entries : Entries) (key : Key) → EndBy at entries → is_above at key ≡ true → EndBy (Some key) entries
ends_further at [] key ends key_above = tt
ends_further at (e ∷ es) key ends key_above = (ap is_lt (turned e.0 key Less (below_above at e.0 key ends.0 key_above)), ends_further at es key ends.1 key_above)

pub ends_kept : (settles : Bool) (at : Option Key) (entries : Entries) (key : Key) (rec : Rec) → EndBy at entries → is_above at key ≡ true → EndBy (Some key) (entries ++ kept settles ((key, rec) ∷ []))
ends_kept false at entries key rec ends key_above = ends_more at entries key rec ends key_above
ends_kept true at entries key rec ends key_above = by_value (settle rec)
  where
    by_value : (value : Option Value) → EndBy (Some key) (entries ++ settled_base key value [])
    by_value None = subst (EndBy (Some key)) (same_none entries) (ends_further at entries key ends key_above)
    by_value (Some value) = ends_more at entries key (Base value) ends key_above
