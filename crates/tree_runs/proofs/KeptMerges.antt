-- What merges keep that go on while another run becomes a component: their pages keep their tags, and read the same.
use Rattle.std.specs.Prelude.{◌≡◌, ◌≢◌, ℕ, Bool, true, IsTrue, Option, Some, None, List, refl}
use Rattle.std.proofs.lemmas.Grind.{common_steps}
use Rattle.std.proofs.lemmas.Bool.Decides.{nat_tests}
use Rattle.std.proofs.Common.{arith}
use Rattle.std.specs.List.{Contains}
use Rattle.std.proofs.Common.{inr, sym, subst}
use Rattle.disk_trait.specs.Region.{Region, nowhere, AreApart, IsSameOutside}
use Rattle.disk_trait.proofs.RegionLemmas.{same_file, same_wider, part_apart}
use Rattle.blsm_model.specs.Format.{page_length}
use Rattle.blsm_model.specs.declared.key.Key.{Key}
use Rattle.blsm_model.specs.Sizes.{Sizes}
use Rattle.bloom_bits.specs.BitSet.{BitState}
use Rattle.bloom_bits.specs.Fences.{FencesState}
use Rattle.record_delta.specs.Entries.{Entries}
use Rattle.page_space.specs.Space.{SpaceState, HasRole}
use Rattle.page_file.specs.Component.{RunPage, numbers_of}
use Rattle.page_file.specs.File.{page_start, AreSamePages}
use Rattle.run_cursor.specs.Cursor.{CursorState}
use Rattle.run_cursor.proofs.AheadLemmas.{ahead_kept}
use Rattle.run_writer.specs.Writer.{WriterState, HasPushed, role_region}
use Rattle.run_writer.proofs.RegionLemmas.{pushed_kept}
use Rattle.merge_ends.specs.Input.{IsInput}
use Rattle.merge_ends.specs.Output.{HasRun}
use Rattle.snow_merge.specs.Pass.{SnowState}
use Rattle.deep_merge.specs.Merge.{DeepState}
use Rattle.tree_runs.proofs.ReleasedTags.{Released, has_before, has_still}
use Rattle.tree_runs.specs.Runs.{GuideState, HasOneTag, PassHasTag, DeepHasTag, PassRuns, DeepRuns}
use Rattle.tree_runs.specs.Holding.{AreElsewhere, AreTagged, IsPassOver, IsDeepOver}

-- From one file and map to other ones: the pages that have a run's tag had it, and those that had it keep it and read the same.
pub record KeepsRun (sizes : Sizes) (honest : Bool) (region : Region) (old new : List ℕ) (space after : SpaceState) (tag : ℕ) : Type 0 where
  pub no_more : (n : ℕ) → HasRole after tag n → HasRole space tag n
  pub tagged : (n : ℕ) → HasRole space tag n → HasRole after tag n
  pub same : IsTrue honest → IsSameOutside region old new
  pub apart : AreApart region (role_region sizes space tag)

-- the pages of an input, too
pub record KeepsPages (sizes : Sizes) (space after : SpaceState) (region : Region) (tag : ℕ) : Type 0 where
  pub tagged : (n : ℕ) → HasRole space tag n → HasRole after tag n
  pub apart : AreApart region (role_region sizes space tag)

module _ {sizes : Sizes} {honest : Bool} {region : Region} {old new : List ℕ} {space after : SpaceState} where
  pushed_still : {tag : ℕ} {writer : WriterState} {filter : BitState} {fences : FencesState} (entries : Entries) → KeepsRun sizes honest region old new space after tag → writer.role ≡ tag
      → HasPushed sizes honest old space writer filter fences entries → HasPushed sizes honest new after writer filter fences entries
  pushed_still {tag} {writer} {filter} {fences} entries keeps role pushed =
      pushed_kept sizes honest old new space after writer filter fences entries (λ n has. subst (λ (r : ℕ). HasRole after r n) (sym role) (keeps.tagged n (subst (λ (r : ℕ). HasRole space r n) role has)))
      (λ told. same_wider (λ i here. inr (λ page. keeps.apart i here (subst (λ (r : ℕ). role_region sizes space r i) role page))) (keeps.same told)) pushed

  run_still : {tag : ℕ} {writer : WriterState} {filter : BitState} {fences : FencesState} {at : Option Key} → KeepsRun sizes honest region old new space after tag → writer.role ≡ tag
      → HasRun sizes honest old space writer filter fences at → HasRun sizes honest new after writer filter fences at
  run_still keeps role run = record { out = run.out; pushed = pushed_still run.out keeps role run.pushed; ends = run.ends }

  -- on any disk
  pub pass_runs_still : (tag : ℕ) (guide : GuideState) (snow : Option SnowState) → KeepsRun sizes honest region old new space after tag → PassHasTag tag snow → PassRuns sizes honest old space guide snow → PassRuns sizes honest new after guide snow
  pass_runs_still tag guide snow h1 h2 h3 = grind (arith, common_steps, nat_tests, run_still)

  pub deep_runs_still : (tag : ℕ) (guide : GuideState) (merge : Option DeepState) → KeepsRun sizes honest region old new space after tag → DeepHasTag tag merge → DeepRuns sizes honest old space guide merge → DeepRuns sizes honest new after guide merge
  deep_runs_still tag guide merge h1 h2 h3 = grind (arith, common_steps, nat_tests, run_still)

-- the lists, on an honest disk
module _ {sizes : Sizes} {region : Region} {old new : List ℕ} {space after : SpaceState} where
  input_still : {tag of_input role : ℕ} {at : Option Key} {cursor : CursorState} {entries : Entries} (pages : List RunPage) (keeps : KeepsRun sizes true region old new space after tag) → role ≡ tag
      → KeepsPages sizes space after region of_input → AreTagged space of_input pages
      → IsInput sizes old space role at cursor (numbers_of pages) entries → IsInput sizes new after role at cursor (numbers_of pages) entries
  input_still {tag} {of_input} {role} {at} {cursor} {entries} pages keeps role_is stays tagged input =
      let now = ahead_kept None sizes cursor input.rest old new input.ahead same in
      let back = λ (n : ℕ) (has : Contains (numbers_of now.0.coming) n). subst (λ (ps : List RunPage). Contains (numbers_of ps) n) now.1 has in
      record {
        sorted = input.sorted;
        rest = input.rest;
        ahead = now.0;
        left_is = input.left_is;
        among = λ n has. input.among n (back n has);
        apart = λ n has is. input.apart n (back n has) (subst (λ (r : ℕ). HasRole space r n) (sym role_is) (keeps.no_more n (subst (λ (r : ℕ). HasRole after r n) role_is is)));
        in_use = λ n has free. free.no_role of_input (stays.tagged n (tagged n (input.among n (back n has))));
      }
    where
      same : AreSamePages sizes (numbers_of input.ahead.coming) old new
      same n has = part_apart (page_start sizes n) page_length (λ i here page. stays.apart i here (n, tagged n (input.among n has), page)) (keeps.same refl)

  pub pass_over_still : {tag of_c1 : ℕ} (guide : GuideState) (snow : Option SnowState) (a : Entries) (c1 : List RunPage) (keeps : KeepsRun sizes true region old new space after tag) → KeepsPages sizes space after region of_c1
      → PassHasTag tag snow → AreTagged space of_c1 c1 → IsPassOver sizes old space guide snow a c1 → IsPassOver sizes new after guide snow a c1
  unfolding run_still
  pass_over_still guide None a c1 keeps stays role tagged over = tt
  pass_over_still guide (Some snow) a c1 keeps stays role tagged over = record {
    newer_is = over.newer_is;
    older_is = input_still c1 keeps role stays tagged over.older_is;
    run = run_still keeps role over.run;
    begun = over.begun;
    out_is = over.out_is;
    closed_up = over.closed_up;
    closed_is = over.closed_is;
    left_is = over.left_is;
    here_is = λ none. input_still c1 keeps role stays tagged (over.here_is none);
    behind_is = λ none. input_still c1 keeps role stays tagged (over.behind_is none);
  }

  pub deep_over_still : {tag of_c1x of_c2 : ℕ} (guide : GuideState) (merge : Option DeepState) (c1x c2 : List RunPage) (keeps : KeepsRun sizes true region old new space after tag) → KeepsPages sizes space after region of_c1x
      → KeepsPages sizes space after region of_c2 → DeepHasTag tag merge → AreTagged space of_c1x c1x → AreTagged space of_c2 c2 → IsDeepOver sizes old space guide merge c1x c2
      → IsDeepOver sizes new after guide merge c1x c2
  unfolding run_still
  deep_over_still guide None c1x c2 keeps newer older role tagged tagged_c2 over = over
  deep_over_still guide (Some merge) c1x c2 keeps newer older role tagged tagged_c2 over = record {
    newer_is = input_still c1x keeps role newer tagged over.newer_is;
    older_is = input_still c2 keeps role older tagged_c2 over.older_is;
    run = run_still keeps role over.run;
    begun = over.begun;
    out_is = over.out_is;
    closed_up = over.closed_up;
    closed_is = over.closed_is;
    left_is = over.left_is;
    here_is = λ none. input_still c2 keeps role older tagged_c2 (over.here_is none);
    behind_is = λ none. input_still c2 keeps role older tagged_c2 (over.behind_is none);
  }

-- ---- where tags were released alone

pub keeps_one : {sizes : Sizes} {honest : Bool} (file : List ℕ) {role : ℕ} {space after : SpaceState} (tag : ℕ) → Released role space after → tag ≢ role → KeepsRun sizes honest nowhere file file space after tag
keeps_one file tag gone differs = record { no_more = has_before gone tag; tagged = λ n. has_still gone tag n differs; same = λ told. same_file nowhere file; apart = λ i here. absurd here }

pub pages_one : {sizes : Sizes} {role : ℕ} {space after : SpaceState} (tag : ℕ) → Released role space after → tag ≢ role → KeepsPages sizes space after nowhere tag
pages_one tag gone differs = record { tagged = λ n. has_still gone tag n differs; apart = λ i here. absurd here }

pub keeps_two : {sizes : Sizes} {honest : Bool} (file : List ℕ) {role other : ℕ} {space mid after : SpaceState} (tag : ℕ) → Released role space mid → Released other mid after → tag ≢ role → tag ≢ other
    → KeepsRun sizes honest nowhere file file space after tag
keeps_two file tag first second differs differs_too = grind (arith, common_steps, nat_tests)

pub pages_two : {sizes : Sizes} {role other : ℕ} {space mid after : SpaceState} (tag : ℕ) → Released role space mid → Released other mid after → tag ≢ role → tag ≢ other
    → KeepsPages sizes space after nowhere tag
pages_two tag first second differs differs_too = record { tagged = λ n has. has_still second tag n differs_too (has_still first tag n differs has); apart = λ i here. absurd here }

-- ---- where a deep merge begins

-- a page that has one tag has no other, and isn't free
pub elsewhere : (space : SpaceState) (tag role : ℕ) (pages : List RunPage) → HasOneTag space → tag ≢ role → AreTagged space tag pages → AreElsewhere space role pages
elsewhere space tag role pages once differs tagged n has = (λ also. differs (once n tag role (tagged n has) also), λ free. free.no_role tag (tagged n has))
