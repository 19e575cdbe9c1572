-- The tree of one dependency, computed: that of a table whose first column decides the other one.
use Rattle.std.proofs.Common.{◌≡◌, ◌+◌, Bool, true, false, cond, not, ◌||◌, [], ◌∷◌, Some, None, is_some, sym, ap, ◌∙◌, codes, nat_eq}
use Rattle.plain_values.proofs.Common.{true≢false, and_parts, false_from_ne_true, list_any, IsStrictlySortedBy, eq_by_cmp, bytes_cmp, absurd_false, same_bool}
use Rattle.std.specs.FinMap as finmap
use Rattle.plain_values.specs.SortedSet as set
use Rattle.fd_laws.proofs.Common.{closure_is, name_total, name_exact, name_itself, one_is, from_rest, in_rest}
use Rattle.lens_specs.specs.Common.{Name, Within, one, share, Edge, edge, closure, TreeForm, is_tree, reduce_edge, with_right, kept_edge, tree_of, narrowed_by, is_free, stuck, put_first, checked}

abbrev pub a : Name
a = codes "a"

abbrev pub b : Name
b = codes "b"

-- a determines b
abbrev pub e : Edge
e = edge (one a) (one b)

pub other : a ≡ b → ⊥
other h = true≢false (sym (name_itself a) ∙ ap (eq_by_cmp bytes_cmp a) h)

a_alone : set.contains (one b) a ≡ false
a_alone = false_from_ne_true _ (λ i. other (one_is b a i))

pub b_alone : set.contains (one a) b ≡ false
b_alone = false_from_ne_true _ (λ i. other (sym (one_is a b i)))

pub items_one : (n : Name) → set.items (one n) ≡ n ∷ []
unfolding IsStrictlySortedBy
items_one n = set.items-from_list name_total (n ∷ []) (tt, tt)

len_one : set.len (one b) ≡ 1
unfolding set.len set.insert set.empty
len_one = finmap.len-insert name_total (finmap.empty {X = Unit {0}} {R = bytes_cmp}) b tt
    ∙ ap (λ o. cond (is_some o) (finmap.len (finmap.empty {X = Unit {0}} {R = bytes_cmp})) (finmap.len (finmap.empty {X = Unit {0}} {R = bytes_cmp}) + 1)) (finmap.get-empty bytes_cmp b)
    ∙ ap (λ n. n + 1) (finmap.len-empty bytes_cmp (Unit {0}))

rest_is : set.difference (one b) (one a) ≡ one b
rest_is = set.same_set name_total name_exact _ _ (λ q. same_bool _ _ (λ i. (from_rest (one b) (one a) q i).0) (λ i. in_rest (one b) (one a) q i (ap (set.contains (one a)) (one_is b q i) ∙ b_alone)))

-- without b on its right side, the edge determines nothing
nothing_else : Within (set.remove (one b) b) (one a)
nothing_else c i =
    let w = and_parts _ _ (sym (set.contains-remove name_total (one b) b c) ∙ i) in
    absurd (true≢false (sym w.0 ∙ ap (λ n. not (eq_by_cmp bytes_cmp n b)) (one_is b c w.1) ∙ ap not (name_itself b)))

not_implied : set.contains (closure (one a) (narrowed_by e b ∷ [])) b ≡ false
not_implied = false_from_ne_true _ (λ i. absurd_false _ ((closure_is (one a) (narrowed_by e b ∷ [])).least (one a) (λ c j. j) ((λ w. nothing_else), tt) b i) b_alone)

unshared : share (one a) (one b) ≡ false
unshared = ap (list_any (set.contains (one b))) (items_one a) ∙ ap (λ s. s || false) a_alone

free : is_free (e ∷ []) e ≡ true
free = ap (λ s. elim (cond s (Some e) None) as (λ _. Bool) [ None ↦ true | Some k ↦ false ]) unshared

ordered_one : checked (e ∷ []) ≡ is_tree (e ∷ [])
ordered_one = ap (λ f. elim (cond f (Some e) None) as (λ _. TreeForm) [ None ↦ stuck (e ∷ []) | Some k ↦ put_first k (is_tree []) ]) free

pub form : tree_of (e ∷ []) ≡ is_tree (e ∷ [])
unfolding tree_of
form = ap (λ R. checked (with_right (reduce_edge [] (edge (one a) R) (set.items R) [] ∷ []))) rest_is
    ∙ ap (λ ns. checked (with_right (reduce_edge [] e ns [] ∷ []))) (items_one b)
    ∙ ap (λ c. checked (with_right (cond c (narrowed_by e b) e ∷ []))) not_implied
    ∙ ap (λ n. checked (kept_edge (nat_eq n 0) e [])) len_one
    ∙ ordered_one
