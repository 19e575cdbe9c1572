use Rattle.std.proofs.Common.{◌≡◌, ◌∙◌, refl, sym, subst, Ok, Result, IsOk}
use Rattle.view_lang.proofs.FullSides.{dep_made}
use Rattle.view_lang.proofs.parsing.definitions.dep_of.Goals as goal

made_ok : {A B : Type 0} (r : Result A B) (a : A) → r ≡ Ok a → IsOk r
made_ok r a e = subst IsOk (sym e) refl

pub unwrap-requires : goal.unwrap-requires
unwrap-requires c =
    made_ok _ _ (c.new-3.ensures ∙ dep_made c.args.left.items c.args.right.items c.in_ok-left.left c.in_ok-new.field-0 c.in_ok-left.ensures c.in_ok-new.ensures c.requires.left c.requires.right)
