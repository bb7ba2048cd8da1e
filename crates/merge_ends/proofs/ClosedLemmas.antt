-- The closed pages of a run that grows: no quantum writes them.
use Rattle.std.proofs.Common.{◌≡◌, ℕ, List, Option, sym, subst, arith}
use Rattle.disk_trait.specs.Disk.{DiskState}
use Rattle.disk_trait.proofs.MomentLemmas.{leaves_only_weaken}
use Rattle.disk_trait.specs.Region.{IsSameOutside, IsWithin, outside}
use Rattle.disk_trait.proofs.RegionLemmas.{same_wider}
use Rattle.blsm_model.specs.declared.component.Component.{Component}
use Rattle.blsm_model.specs.Sizes.{Sizes}
use Rattle.page_space.specs.Space.{SpaceState, HasRole}
use Rattle.page_file.specs.Component.{RunPage, ReadsOn, numbers_of}
use Rattle.page_file.specs.File.{page_region, page_start, pages_region}
use Rattle.page_file.proofs.ComponentLemmas.{chain_kept}
use Rattle.page_file.proofs.PageLemmas.{same_pages}
use Rattle.run_writer.specs.Writer.{WriterState}
use Rattle.run_writer.proofs.RegionLemmas.{closed_page_apart}
use Rattle.merge_ends.specs.Closed.{AreClosed, KeepsClosed}
use Rattle.merge_ends.specs.Quantum.{Grows, grown_region}

grown_apart : (sizes : Sizes) (space after : SpaceState) (writer : WriterState) (pages : List RunPage) → AreClosed space writer pages
    → IsWithin (grown_region sizes space after writer) (outside (pages_region sizes (numbers_of pages)))
grown_apart sizes space after writer pages closed i here page = closed_page_apart sizes space writer page.0 (closed page.0 page.1) i here.1 page.2

-- a page's first byte is in it
begins_at : (sizes : Sizes) (n : ℕ) → page_region sizes n (page_start sizes n)
begins_at sizes n = (omega arith, omega arith)

reads_kept : (sizes : Sizes) (space after : SpaceState) (writer : WriterState) (run : Component) (pages : List RunPage) (end : Option ℕ)
    (old new : List ℕ) → AreClosed space writer pages → IsSameOutside (grown_region sizes space after writer) old new
    → ReadsOn sizes run pages end old → ReadsOn sizes run pages end new
reads_kept sizes space after writer run pages end old new closed same reads =
    let apart = same_wider (grown_apart sizes space after writer pages closed) same in
    record {
      first_is = reads.first_is;
      chained = chain_kept sizes pages end old new (same_pages sizes (numbers_of pages) old new apart) reads.chained;
      rise = reads.rise;
      apart = reads.apart;
      pages_is = reads.pages_is;
      entries_is = reads.entries_is;
      weight_is = reads.weight_is;
    }

pub keeps_closed : {sizes : Sizes} {most : ℕ} {space after : SpaceState} {writer next : WriterState} {old new : DiskState}
    → next.role ≡ writer.role → Grows sizes most space after writer next old new → KeepsClosed sizes space after writer next old new
keeps_closed {sizes} {most} {space} {after} {writer} {next} {old} {new} same grows = record {
  still = λ n closed. (
    subst (λ (r : ℕ). HasRole after r n) (sym same) (grows.takes.kept n closed.0),
    λ some is.
        let there = subst (λ (m : ℕ). page_region sizes m (page_start sizes n)) is (begins_at sizes n) in
        closed_page_apart sizes space writer n closed (page_start sizes n) (grows.opens (page_start sizes n) (some, there)) (begins_at sizes n),
  );
  reads = λ run pages end honest closed. reads_kept sizes space after writer run pages end old.bytes new.bytes closed (grows.effect.bytes honest);
  each = λ run pages end honest closed was.
      leaves_only_weaken
      (λ c before. reads_kept sizes space after writer run pages end before.0 c closed before.2 (was before.0 before.1))
      (grows.effect.images honest);
}
