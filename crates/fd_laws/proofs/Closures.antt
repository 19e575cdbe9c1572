-- Closures, and what they say of relations.
use Rattle.std.proofs.Common.{Option, is_some, pos, ◌≡◌, ℕ, zero, suc, ◌≤◌, Bool, true, false, cond, ◌&&◌, ◌||◌, List, [], ◌∷◌, length, refl, sym, ap, ◌∙◌, subst, ◌⊎◌, inl, inr, Some, None, arith, unwrap_or}
use Rattle.plain_values.proofs.Common.{cases_Bool, and_parts, and_from, or_cases, true≢false, false≢true, or_left, or_right, eq_by_cmp, list_any, fits, int_fits, fits_same, bytes_cmp, Row, row_cmp}
use Rattle.std.specs.FinMap as map
use Rattle.plain_values.specs.SortedSet as set
use Rattle.fd_laws.proofs.Names.{name_total, name_exact, tied_name, apart_back, union_left, subset_from, union_within, subset_is, union_right, within_trans}
use Rattle.fd_laws.proofs.Rows.{row_total, tied_row, row_itself, agree_itself, agree_back, same_value-is, same_value-refl, agree_at, agree_from}
use Rattle.fd_laws.proofs.Trees.{at_edge, each_edge, both_edges}
use Rattle.plain_values.specs.declared.value.Kind.{Kind}
use Rattle.plain_values.specs.declared.value.Kind.TheVariants.{Int, Text, Flag, IntOrNull, TextOrNull, FlagOrNull}
use Rattle.fd_laws.specs.Witness.{low, high, row_of}
use Rattle.plain_values.proofs.ValueLemmas.{text_fits, flag_fits, int_fits_null, text_fits_null, flag_fits_null}
use Rattle.lens_specs.specs.Common.{Columns, names, Fits, fits_at, Name, Names, Within, at, agree, same_value, Rows, has, Edge, AllEdges, Meets, MeetsTree, closure, outputs, IsClosed, IsClosure, first_edge, rest_edges}
use Rattle.plain_values.specs.declared.value.Value.{Value}
use Rattle.lens_specs.specs.Dependencies.{is_ready, grow}
use Rattle.fd_laws.specs.Trees.{Among, IsTree}

module _ (p : Edge → Bool) where
  pub first_passes : (es : List Edge) (e : Edge) → first_edge p es ≡ Some e → p e ≡ true
  first_passes [] e h = cc
  first_passes (k ∷ es) e h =
      elim (p k) as (λ b. p k ≡ b → cond b (Some k) (first_edge p es) ≡ Some e → p e ≡ true) [
        | true ↦ λ t is. let same : k ≡ e = cc in subst (λ z. p z ≡ true) same t
        | false ↦ λ _ is. first_passes es e is
      ] refl h

  pub none_passes : (es : List Edge) → first_edge p es ≡ None → AllEdges (λ e. p e ≡ false) es
  none_passes [] h = tt
  none_passes (k ∷ es) h =
      elim (p k) as (λ b. p k ≡ b → cond b (Some k) (first_edge p es) ≡ None → AllEdges (λ e. p e ≡ false) (k ∷ es)) [
        | true ↦ λ t is. absurd (cc)
        | false ↦ λ f is. (f, none_passes es is)
      ] refl h

  -- what holds of the first and of the others holds of all, and the other way round
  pub all_from_rest : (Q : Edge → Type 0) (es : List Edge) (e : Edge) → first_edge p es ≡ Some e → Q e → AllEdges Q (rest_edges p es) → AllEdges Q es
  all_from_rest Q [] e h q r = cc
  all_from_rest Q (k ∷ es) e h q r =
      elim (p k) as (λ b. cond b (Some k) (first_edge p es) ≡ Some e → AllEdges Q (cond b es (k ∷ rest_edges p es)) → AllEdges Q (k ∷ es)) [
        | true ↦ λ is w. let same : e ≡ k = cc in (subst Q same q, w)
        | false ↦ λ is w. (w.0, all_from_rest Q es e is q w.1)
      ] h r

  pub all_rest : (Q : Edge → Type 0) (es : List Edge) (e : Edge) → first_edge p es ≡ Some e → AllEdges Q es → Q e × AllEdges Q (rest_edges p es)
  all_rest Q [] e h r = cc
  all_rest Q (k ∷ es) e h r =
      elim (p k) as (λ b. cond b (Some k) (first_edge p es) ≡ Some e → Q e × AllEdges Q (cond b es (k ∷ rest_edges p es))) [
        | true ↦ λ is. let same : k ≡ e = cc in (subst Q same r.0, r.1)
        | false ↦ λ is. let w = all_rest Q es e is r.1 in (w.0, (r.0, w.1))
      ] h

  pub length_rest : (es : List Edge) (e : Edge) → first_edge p es ≡ Some e → suc (length (rest_edges p es)) ≡ length es
  length_rest [] e h = cc
  length_rest (k ∷ es) e h =
      elim (p k) as (λ b. cond b (Some k) (first_edge p es) ≡ Some e → suc (length (cond b es (k ∷ rest_edges p es))) ≡ length (k ∷ es)) [
        | true ↦ λ is. refl
        | false ↦ λ is. ap suc (length_rest es e is)
      ] h

grow_given : (n : ℕ) (C : Names) (es : List Edge) → Within C (grow n C es)
unfolding grow
grow_given zero C es = λ c i. i
grow_given (suc n) C es =
    elim (first_edge (is_ready C) es) as (λ o. Within C (elim o [ None ↦ C | Some e ↦ grow n (set.union C e.right) (rest_edges (is_ready C) es) ])) [
      | None ↦ λ c i. i
      | Some e ↦ λ c i. grow_given n (set.union C e.right) (rest_edges (is_ready C) es) c (union_left C e.right c i)
    ]

grow_closed : (n : ℕ) (C : Names) (es : List Edge) → length es ≤ n → IsClosed (grow n C es) es
unfolding grow
grow_closed zero C [] h = tt
grow_closed zero C (e ∷ es) h = absurd (omega arith)
grow_closed (suc n) C es h =
    elim (first_edge (is_ready C) es) as (λ o. first_edge (is_ready C) es ≡ o → IsClosed (elim o [ None ↦ C | Some e ↦ grow n (set.union C e.right) (rest_edges (is_ready C) es) ]) es) [
      | None ↦ λ is. each_edge (λ e. is_ready C e ≡ false) (λ e. Within e.left C → Within e.right C) (λ e f w. absurd (true≢false (sym (subset_from e.left C w) ∙ f))) es (none_passes (is_ready C) es is)
      | Some e ↦ λ is.
          let G = grow n (set.union C e.right) (rest_edges (is_ready C) es) in
          all_from_rest (is_ready C) (λ k. Within k.left G → Within k.right G) es e is
          (λ _ c i. grow_given n (set.union C e.right) (rest_edges (is_ready C) es) c (union_right C e.right c i))
          (grow_closed n (set.union C e.right) (rest_edges (is_ready C) es) (let l = length_rest (is_ready C) es e is in omega arith))
    ] refl

grow_least : (n : ℕ) (C : Names) (es : List Edge) (D : Names) → Within C D → IsClosed D es → Within (grow n C es) D
unfolding grow
grow_least zero C es D h k = h
grow_least (suc n) C es D h k =
    elim (first_edge (is_ready C) es) as (λ o. first_edge (is_ready C) es ≡ o → Within (elim o [ None ↦ C | Some e ↦ grow n (set.union C e.right) (rest_edges (is_ready C) es) ]) D) [
      | None ↦ λ _. h
      | Some e ↦ λ is.
          let w = all_rest (is_ready C) (λ e. Within e.left D → Within e.right D) es e is k in
          grow_least n (set.union C e.right) (rest_edges (is_ready C) es) D (union_within C e.right D h (w.0 (within_trans e.left C D (subset_is e.left C (first_passes (is_ready C) es e is)) h))) w.1
    ] refl

pub closure_is : (X : Names) (F : List Edge) → IsClosure X F (closure X F)
unfolding closure
closure_is X F = record { given = grow_given (length F) X F; closed = grow_closed (length F) X F (omega arith); least = grow_least (length F) X F }

-- a relation that meets the dependencies meets what the closure implies
pub implied : (X C : Names) (F : List Edge) (M : Rows) → IsClosure X F C → MeetsTree M F → Meets M X C
implied X C F M is mm a b ia ib g =
    let test : Name → Bool = λ c. same_value (at a c) (at b c) in
    let D = set.filter test C in
    let keeps : (c : Name) → set.contains D c ≡ (set.contains C c && test c) = λ c. set.contains-filter name_total name_exact test C c in
    let same : (Y : Names) → Within Y D → agree Y a b ≡ true = λ Y w. agree_from Y a b (λ c i. same_value-is _ _ (and_parts _ _ (sym (keeps c) ∙ w c i)).1) in
    let inside : (Y : Names) → Within Y C → agree Y a b ≡ true → Within Y D = λ Y w h c i. keeps c ∙ and_from _ _ (w c i) (ap (λ o. same_value o (at b c)) (agree_at Y a b h c i) ∙ same_value-refl (at b c)) in
    let sub : Within D C = λ c i. (and_parts _ _ (sym (keeps c) ∙ i)).0 in
    same C (is.least D (inside X is.given g)
    (both_edges (λ e. Within e.left C → Within e.right C) (λ e. Meets M e.left e.right) (λ e. Within e.left D → Within e.right D)
    (λ e cl me w. inside e.right (cl (within_trans e.left D C w sub)) (me a b ia ib (same e.left w))) F is.closed mm))

pub implies_sound : (X Y C : Names) (F : List Edge) (M : Rows) → IsClosure X F C → Within Y C → MeetsTree M F → Meets M X Y
implies_sound X Y C F M is w mm a b ia ib g = agree_from Y a b (λ c i. agree_at C a b (implied X C F M is mm a b ia ib g) c (w c i))

-- ---- where it is not implied, two rows show it
low_high : (k : Option Kind) → low k ≡ high k → ⊥
low_high None e = cc
low_high (Some Int) e = cc
low_high (Some Text) e = cc
low_high (Some Flag) e = cc
low_high (Some IntOrNull) e = cc
low_high (Some TextOrNull) e = cc
low_high (Some FlagOrNull) e = cc

pub at-row_of : (f : Name → Value) (cs : List Name) (c : Name) → at (row_of f cs) c ≡ cond (list_any (eq_by_cmp bytes_cmp c) cs) (Some (f c)) None
unfolding row_of
at-row_of f [] c = map.get-empty bytes_cmp c
at-row_of f (k ∷ cs) c = map.get-insert name_total (row_of f cs) k (f k) c ∙ elim (eq_by_cmp bytes_cmp c k) as (λ b. eq_by_cmp bytes_cmp c k ≡ b → cond b (Some (f k)) (at (row_of f cs) c) ≡ cond (b || list_any (eq_by_cmp bytes_cmp c) cs) (Some (f c)) None) [
  | true ↦ λ t. ap (λ z. Some (f z)) (sym (tied_name c k t))
  | false ↦ λ _. at-row_of f cs c
] refl

module _ (U : Names) (K : Name → Option Kind) (C : Names) where
  -- the second row differs from the first just outside C
  abbrev pub zero_row : Row
  zero_row = row_of (λ c. low (K c)) (set.items U)

  abbrev pub mark : Name → Value
  mark c = cond (set.contains C c) (low (K c)) (high (K c))

  abbrev pub one_row : Row
  one_row = row_of mark (set.items U)

  -- two rows of the witness
  unfoldable pub witness : Rows
  witness = set.from_list (zero_row ∷ one_row ∷ [])

  pub in_witness : (r : Row) → has witness r ≡ true → (r ≡ zero_row) ⊎ (r ≡ one_row)
  unfolding witness
  in_witness r i = elim (or_cases _ _ (sym (set.contains-from_list row_total (zero_row ∷ one_row ∷ []) r) ∙ i)) [
    | inl t ↦ inl (tied_row r _ t)
    | inr k ↦ elim (or_cases (eq_by_cmp row_cmp r one_row) false k) [ inl t ↦ inr (tied_row r _ t) | inr n ↦ absurd (false≢true n) ]
  ]

  pub zero_in : has witness zero_row ≡ true
  unfolding witness
  zero_in = set.contains-from_list row_total (zero_row ∷ one_row ∷ []) zero_row ∙ or_left _ _ (row_itself zero_row)

  pub one_in : has witness one_row ≡ true
  unfolding witness
  one_in = set.contains-from_list row_total (zero_row ∷ one_row ∷ []) one_row ∙ or_right _ _ (or_left _ _ (row_itself one_row))

  pub at_zero : (c : Name) → set.contains U c ≡ true → at zero_row c ≡ Some (low (K c))
  at_zero c i = at-row_of (λ c. low (K c)) (set.items U) c ∙ ap (λ b. cond b (Some (low (K c))) None) (sym (set.contains-items U c) ∙ i)

  pub at_one : (c : Name) → set.contains U c ≡ true → at one_row c ≡ Some (mark c)
  at_one c i = at-row_of mark (set.items U) c ∙ ap (λ b. cond b (Some (mark c)) None) (sym (set.contains-items U c) ∙ i)

  differ : (Y : Names) → Within Y U → agree Y zero_row one_row ≡ true → Within Y C
  differ Y w g c i = elim (cases_Bool (set.contains C c)) [
    | inl t ↦ t
    | inr f ↦
        let e : Some (low (K c)) ≡ Some (mark c) = sym (at_zero c (w c i)) ∙ agree_at Y zero_row one_row g c i ∙ at_one c (w c i) in
        let k : mark c ≡ high (K c) = ap (λ b. cond b (low (K c)) (high (K c))) f in
        absurd (low_high (K c) (ap (λ o. unwrap_or o (low (K c))) e ∙ k))
  ]

  alike : (Y : Names) → Within Y U → Within Y C → agree Y zero_row one_row ≡ true
  alike Y w v = agree_from Y zero_row one_row (λ c i. at_zero c (w c i) ∙ ap (λ b. Some (cond b (low (K c)) (high (K c)))) (sym (v c i)) ∙ sym (at_one c (w c i)))

  -- it meets each dependency that C is closed under
  pub witness_meets : (e : Edge) → Within e.left U → Within e.right U → (Within e.left C → Within e.right C) → Meets witness e.left e.right
  witness_meets e wl wr cl a b ia ib g = elim (in_witness a ia) [
    | inl p ↦ elim (in_witness b ib) [
      | inl q ↦ rw (p, q) (agree_itself e.right zero_row)
      | inr q ↦ rw (p, q) (alike e.right wr (cl (differ e.left wl (rw (p, q) at g))))
    ]
    | inr p ↦ elim (in_witness b ib) [
      | inl q ↦ rw (p, q) (agree_back e.right _ _ (alike e.right wr (cl (differ e.left wl (agree_back e.left _ _ (rw (p, q) at g))))))
      | inr q ↦ rw (p, q) (agree_itself e.right one_row)
    ]
  ]

  -- and no other
  pub witness_refutes : (X Y : Names) → Within X U → Within Y U → Within X C → Meets witness X Y → Within Y C
  witness_refutes X Y wx wy xc m = differ Y wy (m zero_row one_row zero_in one_in (alike X wx xc))

-- a value that fits the kind, or none
low_is : (k : Kind) → fits (low (Some k)) k ≡ true
low_is Int = int_fits (pos 0)
low_is Text = text_fits []
low_is Flag = flag_fits false
low_is IntOrNull = int_fits_null (pos 0)
low_is TextOrNull = text_fits_null []
low_is FlagOrNull = flag_fits_null false

high_is : (k : Kind) → fits (high (Some k)) k ≡ true
high_is Int = int_fits (pos 1)
high_is Text = text_fits (97 ∷ [])
high_is Flag = flag_fits true
high_is IntOrNull = int_fits_null (pos 1)
high_is TextOrNull = text_fits_null (97 ∷ [])
high_is FlagOrNull = flag_fits_null true

low_fits : (k : Option Kind) (b : Bool) → is_some k ≡ b → fits_at (cond b (Some (low k)) None) k ≡ true
low_fits None true e = cc
low_fits None false e = refl
low_fits (Some k) true e = low_is k
low_fits (Some k) false e = cc

high_fits : (k : Option Kind) (b d : Bool) → is_some k ≡ b → fits_at (cond b (Some (cond d (low k) (high k))) None) k ≡ true
high_fits None true d e = cc
high_fits None false d e = refl
high_fits (Some k) true true e = low_is k
high_fits (Some k) true false e = high_is k
high_fits (Some k) false d e = cc

listed : (U : Columns) (c : Name) → is_some (map.get U c) ≡ list_any (eq_by_cmp bytes_cmp c) (set.items (names U))
unfolding names
listed U c = map.contains_key-keys U c ∙ sym (set.contains-from_list name_total (map.keys U) c) ∙ set.contains-items (set.from_list (map.keys U)) c

-- both rows of the witness fit the columns
pub witness_fits : (U : Columns) (C : Names) (r : Row) → has (witness (names U) (map.get U) C) r ≡ true → Fits U r
witness_fits U C r i c = elim (in_witness (names U) (map.get U) C r i) [
  | inl is ↦ fits_same _ _ _ _ (sym (ap (λ z. at z c) is ∙ at-row_of (λ n. low (map.get U n)) (set.items (names U)) c)) refl (low_fits (map.get U c) _ (listed U c))
  | inr is ↦ fits_same _ _ _ _ (sym (ap (λ z. at z c) is ∙ at-row_of (mark (names U) (map.get U) C) (set.items (names U)) c)) refl (high_fits (map.get U c) _ (set.contains C c) (listed U c))
]

-- where the closure lacks a column of Y, a relation of two rows meets the dependencies and not X -> Y
pub implies_complete : (U : Names) (K : Name → Option Kind) (X Y C : Names) (F : List Edge) → IsClosure X F C → Within X U → Within Y U → AllEdges (λ e. Within e.left U × Within e.right U) F
    → MeetsTree (witness U K C) F × (Meets (witness U K C) X Y → Within Y C)
implies_complete U K X Y C F is wx wy wf = (
  both_edges (λ e. Within e.left U × Within e.right U) (λ e. Within e.left C → Within e.right C) (λ e. Meets (witness U K C) e.left e.right)
      (λ e w cl. witness_meets U K C e w.0 w.1 cl) F wf is.closed,
  witness_refutes U K C X Y wx wy is.given,
)

rights_within : (T : List Edge) → AllEdges (λ e. Within e.right (outputs T)) T
unfolding outputs
rights_within [] = tt
rights_within (e ∷ es) = (union_left e.right (outputs es), each_edge (λ k. Within k.right (outputs es)) (λ k. Within k.right (outputs (e ∷ es))) (λ k w c j. union_right e.right (outputs es) c (w c j)) es (rights_within es))

output_edge : (T : List Edge) (A : Name) → IsTree T → set.contains (outputs T) A ≡ true → (e : Edge) × Among e T × (set.contains e.right A ≡ true) × (set.contains e.left A ≡ false)
unfolding outputs
output_edge [] A tree i = absurd (true≢false (sym i ∙ set.contains-empty _ A))
output_edge (e ∷ es) A tree i = elim (or_cases _ _ (sym (set.contains-union name_total e.right (outputs es) A) ∙ i)) [
  | inl j ↦ (e, inl refl, j, apart_back e.left e.right tree.0 A j)
  | inr j ↦ let w = output_edge es A tree.2 j in (w.0, inr w.1, w.2, w.3)
]

-- ---- the outputs of a tree are the columns that are implied from elsewhere
pub implied_output : (T : List Edge) (A : Name) (X C : Names) → IsClosure X T C → set.contains C A ≡ true → set.contains X A ≡ false → set.contains (outputs T) A ≡ true
implied_output T A X C is i o = elim (or_cases _ _ (sym (set.contains-union name_total X (outputs T) A) ∙ is.least (set.union X (outputs T)) (union_left X (outputs T))
    (each_edge (λ e. Within e.right (outputs T)) (λ e. Within e.left (set.union X (outputs T)) → Within e.right (set.union X (outputs T))) (λ e w _ c j. union_right X (outputs T) c (w c j)) T (rights_within T)) A i)) [
      | inl y ↦ absurd (true≢false (sym y ∙ o))
      | inr y ↦ y
    ]

pub output_implied : (T : List Edge) (A : Name) → IsTree T → set.contains (outputs T) A ≡ true → (e : Edge) × Among e T × (set.contains e.left A ≡ false) × ((C : Names) → IsClosure e.left T C → set.contains C A ≡ true)
output_implied T A tree i = let w = output_edge T A tree i in (w.0, w.1, w.3, λ C is. at_edge (λ e. Within e.left C → Within e.right C) T w.0 w.1 is.closed is.given A w.2)
