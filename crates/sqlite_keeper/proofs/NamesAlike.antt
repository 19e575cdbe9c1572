-- Names as a set has them, and as columns and rows do.
use Rattle.std.proofs.Common.{◌≡◌, ◌∙◌, ℕ, List, ap, sym}
use Rattle.plain_values.proofs.Common.{nat_list_cmp_total, entries, keys, Columns, names, Names, bytes_cmp, keys_of, keys_rise, items, items-from_list}
use Rattle.plain_values.specs.declared.value.Kind.{Kind}

-- the set of the columns' names has those of their pairs, in the same order
pub names_listed : (U : Columns) (X : Names) (es : List (List ℕ × Kind)) → X ≡ names U → es ≡ entries U → items X ≡ keys_of es
unfolding names
names_listed U X es made pairs =
    ap items made ∙ items-from_list nat_list_cmp_total (keys U) (keys_rise bytes_cmp U) ∙ ap keys_of (sym pairs)
