-- Where quanta write: on the page that is open before one, and on pages that its run takes. A deep merge's end writes its open page alone.
use Rattle.disk_trait.specs.Region.{Region, nowhere}
use Rattle.std.specs.Prelude.{Option, Some, None}
use Rattle.blsm_model.specs.Sizes.{Sizes}
use Rattle.page_space.specs.Space.{SpaceState}
use Rattle.run_writer.specs.Writer.{open_region}
use Rattle.merge_ends.specs.Quantum.{grown_region}
use Rattle.snow_merge.specs.Pass.{SnowState}
use Rattle.deep_merge.specs.Merge.{DeepState}

-- of the pass
abbrev pub region_of_pass : Sizes → SpaceState → SpaceState → Option SnowState → Region
region_of_pass sizes space after None = nowhere
region_of_pass sizes space after (Some snow) = grown_region sizes space after snow.writer

-- its open page alone, where its run ends
abbrev pub open_of_pass : Sizes → Option SnowState → Region
open_of_pass sizes None = nowhere
open_of_pass sizes (Some snow) = open_region sizes snow.writer

-- and of the deep merge
abbrev pub region_of_deep : Sizes → SpaceState → SpaceState → Option DeepState → Region
region_of_deep sizes space after None = nowhere
region_of_deep sizes space after (Some merge) = grown_region sizes space after merge.writer

abbrev pub open_of_deep : Sizes → Option DeepState → Region
open_of_deep sizes None = nowhere
open_of_deep sizes (Some merge) = open_region sizes merge.writer
