-- The lenses of a valid state have keys.
use Rattle.std.proofs.Common.{◌≡◌, ◌<◌, ℕ, true, List, [], ◌∷◌, cond, length, map, Some, None, Ok, is_some, sym, ap, subst, ◌∙◌, inl, inr, ◌^◌, is_err}
use Rattle.plain_values.proofs.Common.{list_all, and_parts, cases_Bool, or_left, eq_by_cmp, bytes_cmp, place_none}
use Rattle.std.specs.FinMap as finmap
use Rattle.plain_values.specs.SortedSet as set
use Rattle.plain_values.specs.declared.value.Kind.{Kind}
use Rattle.fd_laws.proofs.Common.{names-get, name_total, name_itself, tied_name}
use Rattle.lens_laws.proofs.Asked.{filled_from}
use Rattle.lens_laws.proofs.SmallSorts.{table_has_keys}
use Rattle.lens_laws.proofs.Common.{HasKeys, IsFilled}
use Rattle.lens_specs.specs.Common.{names, AllEdges, Lens, base, select, drop, rename, Name}
use Rattle.grammar_specs.specs.Common.{Answers, Definition, table, view, Expr, named, dep_meaning, meaning, Dep, Written, is_definition, is_dep, is_some_list}
use Rattle.grammar_specs.specs.Meaning as language
use Rattle.grammar_specs.specs.Written as written
use Rattle.grammar_laws.proofs.Reading.{reading_answers}
use Rattle.grammar_laws.specs.Reading.{reading}
use Rattle.grammar_laws.proofs.Options.{map_some}
use Rattle.server_specs.specs.Common.{Catalogue, catalogue, catalogue_onto, lens_of, table_lens, with_definition, with_lens, first_refused, judged, refused_from}
use Rattle.server_laws.specs.StateLaws.{AreShort}
use Rattle.server_laws.proofs.Taken.{IsTaken, get-new, get-other, judged_ok, lens_is, no_error, table_sort_is}
use Rattle.server_laws.proofs.Views.{joined}

-- ---- what a text says has columns, and dependencies with left sides

filled_names : (ns : List Name) → is_some_list ns ≡ true → IsFilled (set.from_list ns)
filled_names [] h = cc
filled_names (n ∷ ns) h = filled_from (set.from_list (n ∷ ns)) n (set.contains-from_list name_total (n ∷ ns) n ∙ or_left _ _ (name_itself n))

filled_columns : (columns : List (Name × Kind)) → is_some_list columns ≡ true → IsFilled (names (finmap.from_entries columns))
filled_columns [] h = cc
filled_columns (c ∷ columns) h =
    filled_from (names (finmap.from_entries (c ∷ columns))) c.0
    (names-get (finmap.from_entries (c ∷ columns)) c.0
    ∙ ap is_some (finmap.get-insert name_total (finmap.from_entries columns) c.0 c.1 c.0 ∙ ap (λ b. cond b (Some c.1) (finmap.get (finmap.from_entries {R = bytes_cmp} columns) c.0)) (name_itself c.0)))

filled_lefts : (deps : List Dep) → list_all is_dep deps ≡ true → AllEdges (λ e. IsFilled e.left) (map dep_meaning deps)
filled_lefts [] h = tt
filled_lefts (d ∷ deps) h =
    let both = and_parts _ _ h in
    let sides = and_parts _ _ both.0 in
    (filled_names d.0 (and_parts _ _ sides.0).0, filled_lefts deps both.1)

-- a table has a column, and each of its dependencies a left side
abbrev HasSides : Definition → Type 0
HasSides (table name columns deps predicate) = IsFilled (names columns) × AllEdges (λ e. IsFilled e.left) deps
HasSides (view name expr) = Unit {0}

written_sides : (w : Written) → is_definition w ≡ true → HasSides (meaning w)
written_sides (written.table name columns deps condition) h =
    let behind = and_parts _ _ (and_parts _ _ h).0 in
    let among = and_parts _ _ (and_parts _ _ behind.0).1 in
    (filled_columns columns among.0, filled_lefts deps behind.1)
written_sides (written.view name e) h = tt

read_sides : (text : List ℕ) (d : Definition) → length text < 2 ^ 64 → reading text ≡ Ok d → HasSides d
read_sides text d h e =
    let answer : Answers text (Ok d) = subst (Answers text) e (reading_answers text h) in
    let says = answer.0.0 in
    subst HasSides says.2 (written_sides says.0 says.1.0)

-- ---- each lens of a catalogue

abbrev AllKeyed : Catalogue → Type 0
AllKeyed known = (name : Name) (L : Lens) → finmap.get known name ≡ Some L → HasKeys L

lens_keyed : (known : Catalogue) → AllKeyed known → (expr : Expr) (L : Lens) → lens_of expr known ≡ Some L → HasKeys L
lens_keyed known all (named name) L e = all name L e
lens_keyed known all (language.select P of) L e = let w = map_some (select P) (lens_of of known) L e in subst HasKeys w.2 (lens_keyed known all of w.0 w.1)
lens_keyed known all (language.drop A X a of) L e = let w = map_some (drop A X a) (lens_of of known) L e in subst HasKeys w.2 (lens_keyed known all of w.0 w.1)
lens_keyed known all (language.rename A B of) L e = let w = map_some (rename A B) (lens_of of known) L e in subst HasKeys w.2 (lens_keyed known all of w.0 w.1)
lens_keyed known all (language.join kind left right) L e =
    let w = joined kind (lens_of left known) (lens_of right known) L e in
    subst HasKeys w.4 (lens_keyed known all left w.0 w.2, lens_keyed known all right w.1 w.3)

with_keyed : (known : Catalogue) (name : Name) (M : Lens) → HasKeys M → AllKeyed known → AllKeyed (finmap.insert known name M)
with_keyed known name M k all q L e = elim (cases_Bool (eq_by_cmp bytes_cmp q name)) [
  | inl t ↦
      let is : Some M ≡ Some L = sym (get-new known name M) ∙ ap (finmap.get (finmap.insert known name M)) (sym (tied_name q name t)) ∙ e in
      let same : M ≡ L = cc in
      subst HasKeys same k
  | inr o ↦ all q L (sym (get-other known name M q o) ∙ e)
]

still_keyed : (known : Catalogue) (d : Definition) → IsTaken known d → HasSides d → AllKeyed known → AllKeyed (with_definition (Ok d) known)
still_keyed known (table name columns deps P) t h all =
    with_keyed known name (table_lens name columns deps P)
    (subst (λ s. HasKeys (base name s)) (table_sort_is columns deps P t.1.0 t.1.1) (table_has_keys name columns deps P t.1.0 h.0 h.1 t.1.1).0) all
still_keyed known (view name expr) t h all =
    let is = lens_is known expr t.1.0 t.1.1 in
    subst (λ o. AllKeyed (with_lens name o known)) (sym is) (with_keyed known name t.1.0 (lens_keyed known all expr t.1.0 is) all)

keyed_onto : (known : Catalogue) (texts : List (List ℕ)) → AllKeyed known → AreShort texts → refused_from known texts ≡ None → AllKeyed (catalogue_onto known texts)
keyed_onto known [] all short h = all
keyed_onto known (text ∷ texts) all short h =
    let w = place_none (is_err (judged known (reading text))) (refused_from (with_definition (reading text) known) texts) h in
    let j = no_error (judged known (reading text)) w.0 in
    let d = judged_ok known (reading text) j.0 j.1 in
    let more = still_keyed known j.0 d.1 (read_sides text j.0 short.0 d.0) all in
    keyed_onto (with_definition (reading text) known) texts (subst (λ r. AllKeyed (with_definition r known)) (sym d.0) more) short.1 w.1

-- every lens of a catalogue of taken texts has keys
pub all_keyed : (texts : List (List ℕ)) → AreShort texts → first_refused texts ≡ None → (name : Name) (L : Lens) → finmap.get (catalogue texts) name ≡ Some L → HasKeys L
all_keyed texts short h = keyed_onto finmap.empty texts (λ name L e. let f : None ≡ Some L = sym (finmap.get-empty bytes_cmp name) ∙ e in cc) short h
