-- The edits of a batch, read one after another.
use Rattle.std.proofs.Common.{◌≡◌, ◌∙◌, List, [], ◌∷◌, ◌++◌, ap, sym, refl, ◌&&◌, Option, Some, None, is_some}
use Rattle.plain_values.proofs.Common.{list_all}
use Rattle.borrowed_json.specs.Meaning.{value_data, items_data}
use Rattle.borrowed_json.specs.declared.value.Value.{Value as Json}
use Rattle.server_specs.specs.Common.{BatchEdit, each_edit}
use Rattle.server_specs.specs.Request.{batch_edit_in, with_edit}

-- ---- whether each is an edit

first_there : (first : Option BatchEdit) (others : Option (List BatchEdit)) → is_some (with_edit first others) ≡ (is_some first && is_some others)
first_there None others = refl
first_there (Some f) None = refl
first_there (Some f) (Some es) = refl

pub each_there : (xs : List Json) → list_all (λ x. is_some (batch_edit_in (value_data x))) xs ≡ is_some (each_edit (items_data xs))
each_there [] = refl
each_there (x ∷ xs) =
    ap (λ b. is_some (batch_edit_in (value_data x)) && b) (each_there xs)
    ∙ sym (first_there (batch_edit_in (value_data x)) (each_edit (items_data xs)))

-- ---- one after another

edit_more : (first : Option BatchEdit) (others more : Option (List BatchEdit)) (e : BatchEdit)
    → ((es : List BatchEdit) → others ≡ Some es → more ≡ Some (es ++ e ∷ [])) → (all : List BatchEdit) → with_edit first others ≡ Some all → with_edit first more ≡ Some (all ++ e ∷ [])
edit_more None others more e h all is = cc
edit_more (Some f) None more e h all is = cc
edit_more (Some f) (Some es) more e h all is =
    let same : all ≡ f ∷ es = cc in
    ap (with_edit (Some f)) (h es refl) ∙ ap (λ qs. Some (qs ++ e ∷ [])) (sym same)

pub edits_push : (xs : List Json) (x : Json) (e : BatchEdit) → batch_edit_in (value_data x) ≡ Some e → (edits : List BatchEdit) → each_edit (items_data xs) ≡ Some edits
    → each_edit (items_data (xs ++ x ∷ [])) ≡ Some (edits ++ e ∷ [])
edits_push [] x e is edits so_far =
    let same : edits ≡ [] = cc in
    ap (λ o. with_edit o (Some [])) is ∙ ap (λ es. Some (es ++ e ∷ [])) (sym same)
edits_push (y ∷ xs) x e is edits so_far =
    edit_more (batch_edit_in (value_data y)) (each_edit (items_data xs)) (each_edit (items_data (xs ++ x ∷ []))) e (edits_push xs x e is) edits so_far

edit_none : (first : Option BatchEdit) (whole : Option (List BatchEdit)) → whole ≡ None → with_edit first whole ≡ None
edit_none None whole e = refl
edit_none (Some f) whole e = ap (with_edit (Some f)) e

-- where one is no edit, they are none
pub edits_none : (xs : List Json) (x : Json) (ys : List Json) → batch_edit_in (value_data x) ≡ None → each_edit (items_data (xs ++ x ∷ ys)) ≡ None
edits_none [] x ys is = ap (λ o. with_edit o (each_edit (items_data ys))) is
edits_none (y ∷ xs) x ys is = edit_none (batch_edit_in (value_data y)) (each_edit (items_data (xs ++ x ∷ ys))) (edits_none xs x ys is)
