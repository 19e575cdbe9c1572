-- Values by names, and the entries of a map that has them.
use Rattle.std.proofs.Common.{◌≡◌, ◌∙◌, true, List, [], ◌∷◌, ◌++◌, ap, cond, refl, sym, Some}
use Rattle.plain_values.proofs.Common.{is_at, both_ways, lookup, eq_by_cmp, bytes_cmp}
use Rattle.std.specs.FinMap as finmap
use Rattle.fd_laws.proofs.Common.{name_exact, name_itself, name_total, tied_name}
use Rattle.lens_specs.specs.Common.{Name}

-- ---- the value at a name

found : {X : Type 0} (es : List (Name × X)) (q : Name) → lookup (is_at (bytes_cmp q)) es ≡ finmap.find bytes_cmp q es
found [] q = refl
found (e ∷ es) q = ap (cond (is_at (bytes_cmp q) e.0) (Some e.1)) (found es q)

-- the first entry at a name has the map's value there
pub looked_up : {X : Type 0} (es : List (Name × X)) (q : Name) → lookup (is_at (bytes_cmp q)) es ≡ finmap.get (finmap.from_entries {R = bytes_cmp} es) q
looked_up es q = found es q ∙ sym (finmap.get-from_entries name_total es q)

tied_back : (q k : Name) → eq_by_cmp bytes_cmp k q ≡ true → eq_by_cmp bytes_cmp q k ≡ true
tied_back q k e = ap (λ n. eq_by_cmp bytes_cmp q n) (tied_name k q e) ∙ name_itself q

turned : (q k : Name) → eq_by_cmp bytes_cmp k q ≡ eq_by_cmp bytes_cmp q k
turned q k = both_ways _ _ (tied_back q k) (tied_back k q)

-- entries that have one more value are those of the map with it
pub updated : {X : Type 0} (old new : List (Name × X)) (k : Name) (v : X)
    → ((q : Name) → lookup (is_at (bytes_cmp q)) new ≡ cond (is_at (bytes_cmp k) q) (Some v) (lookup (is_at (bytes_cmp q)) old))
    → finmap.from_entries {R = bytes_cmp} new ≡ finmap.insert (finmap.from_entries {R = bytes_cmp} old) k v
updated old new k v h = finmap.same_map name_total name_exact _ _ (λ q.
    sym (looked_up new q) ∙ h q ∙ ap (λ b. cond b (Some v) (lookup (is_at (bytes_cmp q)) old)) (turned q k)
    ∙ ap (cond (eq_by_cmp bytes_cmp q k) (Some v)) (looked_up old q)
    ∙ sym (finmap.get-insert name_total (finmap.from_entries old) k v q))

-- ---- entries put in from the last one on

-- the map with these entries
abbrev pub with_all : {X : Type 0} → List (Name × X) → finmap.FinMap bytes_cmp X → finmap.FinMap bytes_cmp X
with_all [] db = db
with_all (e ∷ es) db = finmap.insert (with_all es db) e.0 e.1

pub with_last : {X : Type 0} (es : List (Name × X)) (e : Name × X) (db : finmap.FinMap bytes_cmp X) → with_all (es ++ e ∷ []) db ≡ with_all es (finmap.insert db e.0 e.1)
with_last [] e db = refl
with_last (d ∷ es) e db = ap (λ m. finmap.insert m d.0 d.1) (with_last es e db)

pub with_all_in_none : {X : Type 0} (es : List (Name × X)) → with_all es finmap.empty ≡ finmap.from_entries es
with_all_in_none [] = refl
with_all_in_none (e ∷ es) = ap (λ m. finmap.insert m e.0 e.1) (with_all_in_none es)
