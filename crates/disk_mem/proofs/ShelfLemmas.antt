-- What a shelf in memory tells once a disk was taken out or put in.
use Rattle.std.proofs.Common.{◌≡◌, ◌<◌, ◌+◌, ◌-◌, ◌^◌, ℕ, true, false, Bool, List, [], ◌∷◌, ◌++◌, Option, Some, None, length, is_none, min, get_or, set, refl, sym, ◌∙◌}
use Rattle.disk_trait.specs.Calls.{GivesBack}
use Rattle.disk_trait.specs.Shelf.{PutsBack, TakesOut}
use Rattle.disk_mem.specs.Recorded.{Recorded, told}
use Rattle.disk_mem.specs.Places.{IsPlace, HasNoPlace, disk_under, is_out_under, all_noted}
use Rattle.disk_mem.specs.Shelved.{Shelved, shelf_state}
use Rattle.disk_mem.proofs.PlaceLemmas.{under_get, under_set, under_other, under_push, under_push_other, out_get, out_set, out_other, out_push, out_push_other, noted_push, name_at_place}
use Rattle.disk_mem.proofs.Told.{fresh_count}

module _ (name : List ℕ) (s : Shelved) where
  -- Where the name stands, its disk is read there.
  pub stands_at : (i : ℕ) → IsPlace name s.names i × (i < length s.disks) → disk_under s.names s.disks name ≡ get_or s.disks i None
  stands_at i place = under_get name s.names i s.disks None place.0 place.1

  pub puts_at : (faults : ℕ) (disk : Recorded) (i : ℕ) → IsPlace name s.names i × (i < length s.disks)
      → PutsBack name (shelf_state s) (shelf_state (record s { disks = set s.disks i (Some disk); faults = faults })) disk
  puts_at faults disk i place = record {
    stands = under_set name s.names i s.disks (Some disk) place.0 place.1;
    in_again = out_set name s.names i s.disks (Some disk) place.0 place.1;
    others = record {
      disks = λ other ne. under_other name other s.names i s.disks (Some disk) place.0 ne;
      out = λ other ne. out_other name other s.names i s.disks (Some disk) place.0 ne;
    };
  }

  pub puts_new : (names : List (List ℕ)) (disks : List (Option Recorded)) (disk : Recorded) → names ≡ s.names ++ name ∷ [] → disks ≡ s.disks ++ Some disk ∷ [] → HasNoPlace name s.names
      → length s.names ≡ length s.disks → PutsBack name (shelf_state s) (shelf_state (record s { names = names; disks = disks })) disk
  puts_new names disks disk named there none long = rw named (rw there (record {
    stands = under_push name s.names s.disks (Some disk) none long;
    in_again = out_push name s.names s.disks (Some disk) none long;
    others = record {
      disks = λ other ne. under_push_other name other s.names s.disks (Some disk) ne long;
      out = λ other ne. out_push_other name other s.names s.disks (Some disk) ne long;
    };
  }))

  pub takes_at : (disks : List (Option Recorded)) (fetched : List (Option (ℕ × Bool))) (before disk : Recorded) (i : ℕ) → IsPlace name s.names i × (i < length s.disks) → disks ≡ set s.disks i None
      → get_or s.disks i None ≡ Some before → disk ≡ record before { faults = 0 } → TakesOut told name (shelf_state s) (shelf_state (record s { disks = disks; fetched = fetched })) disk
  takes_at disks fetched before disk i place gone there fresh = rw gone (record {
    stood = (before, stands_at i place ∙ there, rw fresh (fresh_count before));
    gone = under_set name s.names i s.disks None place.0 place.1;
    out = out_set name s.names i s.disks None place.0 place.1;
    others = record {
      disks = λ other ne. under_other name other s.names i s.disks None place.0 ne;
      out = λ other ne. out_other name other s.names i s.disks None place.0 ne;
    };
  })

  -- a fetch by place, for which there was room
  pub notes_at : (fetched : List (Option (ℕ × Bool))) (fresh : Bool) (i : ℕ) → IsPlace name s.names i × (i < length s.disks) → fetched ≡ s.fetched ++ Some (i, fresh) ∷ [] → s.past ≡ 0
      → all_noted s.names fetched s.past ≡ all_noted s.names s.fetched s.past ++ Some (name, fresh) ∷ []
  notes_at fetched fresh i place pushed none =
      (λ j. all_noted s.names (pushed j) (none j)) ∙ noted_push s.names s.fetched (Some (i, fresh))
      ∙ (λ j. all_noted s.names s.fetched (sym none j) ++ Some (name_at_place name s.names i place.0 j, fresh) ∷ [])

  module _ (disk : Recorded) (faults : ℕ) (counts : faults ≡ min (s.faults + disk.faults) (2 ^ 64 - 1)) where
    -- A disk whose name isn't out is dropped.
    pub drops : is_out_under s.names s.disks name ≡ false → GivesBack told name disk (shelf_state s) (shelf_state (record s { faults = faults }))
    drops inside = record {
      put = λ _ out. absurd (cc (inside, out));
      not_out = λ _ _. record { disks = λ n. refl; out = λ n. refl };
      noted = refl;
      told = record { disks = refl; fetches = refl };
      faults = counts;
    }

    pub puts : (i : ℕ) → IsPlace name s.names i × (i < length s.disks) → is_none (get_or s.disks i None) ≡ true
        → GivesBack told name disk (shelf_state s) (shelf_state (record s { disks = set s.disks i (Some disk); faults = faults }))
    puts i place none = record {
      put = λ _ _. puts_at faults disk i place;
      not_out = λ _ inside. absurd (cc (inside, out_get name s.names i s.disks place.0 place.1, none));
      noted = refl;
      told = record { disks = refl; fetches = refl };
      faults = counts;
    }
