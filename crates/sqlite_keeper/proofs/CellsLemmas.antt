-- Values that come back.
use Rattle.std.proofs.Common.{◌≡◌, true, false, Some, None, sym, ap, subst, refl, if◌then◌else◌}
use Rattle.plain_values.proofs.Common.{true≢false, fits}
use Rattle.plain_values.specs.declared.value.Kind.{Kind}
use Rattle.plain_values.specs.declared.value.Kind.TheVariants as kind
use Rattle.plain_values.specs.declared.value.Value.{Value}
use Rattle.plain_values.specs.declared.value.Value.TheVariants.{Null, Int, Text, Flag}
use Rattle.sqlite_value.specs.declared.value.Value.{Value as Cell}
use Rattle.sqlite_keeper.specs.Cells.{ReadsBack, cell_of}

-- what stands for a value is read as the value
pub reads_back : (k : Kind) (value : Value) → ReadsBack k value (cell_of k value)
unfolding fits
reads_back kind.Int Null fit text = absurd (true≢false (sym fit))
reads_back kind.Text Null fit text = absurd (true≢false (sym fit))
reads_back kind.Flag Null fit text = absurd (true≢false (sym fit))
reads_back kind.IntOrNull Null fit text = refl
reads_back kind.TextOrNull Null fit text = refl
reads_back kind.FlagOrNull Null fit text = refl
reads_back kind.Int (Int n) fit text = refl
reads_back kind.Text (Int n) fit text = absurd (true≢false (sym fit))
reads_back kind.Flag (Int n) fit text = absurd (true≢false (sym fit))
reads_back kind.IntOrNull (Int n) fit text = refl
reads_back kind.TextOrNull (Int n) fit text = absurd (true≢false (sym fit))
reads_back kind.FlagOrNull (Int n) fit text = absurd (true≢false (sym fit))
reads_back kind.Int (Text bytes) fit text = absurd (true≢false (sym fit))
reads_back kind.Text (Text bytes) fit text = ap (λ b. if b then Some (Text bytes) else None) text
reads_back kind.Flag (Text bytes) fit text = absurd (true≢false (sym fit))
reads_back kind.IntOrNull (Text bytes) fit text = absurd (true≢false (sym fit))
reads_back kind.TextOrNull (Text bytes) fit text = ap (λ b. if b then Some (Text bytes) else None) text
reads_back kind.FlagOrNull (Text bytes) fit text = absurd (true≢false (sym fit))
reads_back kind.Int (Flag b) fit text = absurd (true≢false (sym fit))
reads_back kind.Text (Flag b) fit text = absurd (true≢false (sym fit))
reads_back kind.Flag (Flag true) fit text = refl
reads_back kind.Flag (Flag false) fit text = refl
reads_back kind.IntOrNull (Flag b) fit text = absurd (true≢false (sym fit))
reads_back kind.TextOrNull (Flag b) fit text = absurd (true≢false (sym fit))
reads_back kind.FlagOrNull (Flag true) fit text = refl
reads_back kind.FlagOrNull (Flag false) fit text = refl

pub reads_back_as : (k : Kind) (value : Value) (cell : Cell) → cell ≡ cell_of k value → ReadsBack k value cell
reads_back_as k value cell stands = subst (ReadsBack k value) (sym stands) (reads_back k value)
