-- Rows at marked places, and the difference that they and others make.
use Rattle.std.proofs.Common.{◌≡◌, ◌∙◌, ◌∷◌, ◌++◌, ◌+◌, ◌<◌, ◌&&◌, ◌||◌, ℕ, zero, suc, Bool, List, [], add-one, ap, arith, cond, filter, get_or, length, map, not, refl, subst, sym, take, true, false}
use Rattle.std.proofs.Math.ListN as list
use Rattle.plain_values.proofs.Common.{or_from, true≢false, list_any-append, AllByRecursion, IsStrictlySortedBy, eq_by_cmp, is_eq, Ordering, Less, or_comm, row_cmp, Row, first_fails, second_fails}
use Rattle.plain_values.specs.SortedSet as set
use Rattle.lens_specs.specs.Common.{Rows, has, minus}
use Rattle.fd_laws.proofs.Common.{row_exact, row_itself, row_total, tied_row}
use Rattle.fd_laws.proofs.Relations.{has-minus}
use Rattle.row_sets.specs.Members.{is_in}
use Rattle.signed_delta.proofs.Differences.{items_rise}
use Rattle.view_reading.specs.KnownRows.{AreParts, marked, parts_in, unmarked}
use Rattle.view_reading.specs.declared.differing.Parts.{Parts}

-- ---- the unmarked rows rise as all do

unmarked_below : (P : Row → Type 0) (bs : List Bool) (rows : List Row) → AllByRecursion P rows → AllByRecursion P (unmarked bs rows)
unmarked_below P [] rows a = tt
unmarked_below P (b ∷ bs) [] a = tt
unmarked_below P (true ∷ bs) (r ∷ rows) a = unmarked_below P bs rows a.1
unmarked_below P (false ∷ bs) (r ∷ rows) a = (a.0, unmarked_below P bs rows a.1)

pub unmarked_rises : (R : Row → Row → Ordering) (bs : List Bool) (rows : List Row) → IsStrictlySortedBy R rows → IsStrictlySortedBy R (unmarked bs rows)
unfolding IsStrictlySortedBy
unmarked_rises R [] rows s = tt
unmarked_rises R (b ∷ bs) [] s = tt
unmarked_rises R (true ∷ bs) (r ∷ rows) s = unmarked_rises R bs rows s.1
unmarked_rises R (false ∷ bs) (r ∷ rows) s = (unmarked_below (λ x. R r x ≡ Less) bs rows s.0, unmarked_rises R bs rows s.1)

-- ---- tests

shifted : (a m e : Bool) → (a || (m || e)) ≡ ((a || m) || e)
shifted true m e = refl
shifted false m e = refl

again : (a m : Bool) → (a || m) ≡ ((a || m) || a)
again true m = refl
again false true = refl
again false false = refl

behind : (m o e : Bool) → ((m || e) || o) ≡ ((m || o) || e)
behind true o e = refl
behind false o e = or_comm e o

-- a row that is marked is not left, and where it is q no other row is
left_out : (a i m u : Bool) → u ≡ (i && not m) → (a ≡ true → i ≡ false) → u ≡ ((a || i) && not (a || m))
left_out true true m u is out = absurd (true≢false (out refl))
left_out true false m u is out = is
left_out false i m u is out = is

left_there : (a i m u : Bool) → u ≡ (i && not m) → (a ≡ true → m ≡ false) → (a || u) ≡ ((a || i) && not m)
left_there true i true u is out = absurd (true≢false (out refl))
left_there true i false u is out = refl
left_there false i m u is out = is

added : (i m o : Bool) → ((i && not m) && not o) ≡ (i && not (m || o))
added true true o = refl
added true false o = refl
added false m o = refl

removed : (i m o : Bool) → (i ≡ false → m ≡ false) → (o && not i) ≡ ((m || o) && not i)
removed true true true out = refl
removed true true false out = refl
removed true false o out = refl
removed false true o out = absurd (true≢false (out refl))
removed false false o out = refl

-- ---- marks

-- with one place more, its row is marked too
marked_more : (bs : List Bool) (rows : List Row) (k : ℕ) (x q : Row) → length bs ≡ length rows → k < length bs → get_or rows k x ≡ x
    → is_in (marked (list.set bs k true) rows) q ≡ (is_in (marked bs rows) q || eq_by_cmp row_cmp q x)
marked_more [] rows k x q same lt here = absurd (omega arith)
marked_more (b ∷ bs) [] k x q same lt here = absurd (omega arith)
marked_more (true ∷ bs) (r ∷ rows) zero x q same lt here = again (eq_by_cmp row_cmp q r) (is_in (marked bs rows) q) ∙ ap (λ y. (eq_by_cmp row_cmp q r || is_in (marked bs rows) q) || eq_by_cmp row_cmp q y) here
marked_more (false ∷ bs) (r ∷ rows) zero x q same lt here = or_comm (eq_by_cmp row_cmp q r) (is_in (marked bs rows) q) ∙ ap (λ y. is_in (marked bs rows) q || eq_by_cmp row_cmp q y) here
marked_more (true ∷ bs) (r ∷ rows) (suc k) x q same lt here =
    ap (λ b. eq_by_cmp row_cmp q r || b) (marked_more bs rows k x q (omega arith) (omega arith) here)
    ∙ shifted (eq_by_cmp row_cmp q r) (is_in (marked bs rows) q) (eq_by_cmp row_cmp q x)
marked_more (false ∷ bs) (r ∷ rows) (suc k) x q same lt here = marked_more bs rows k x q (omega arith) (omega arith) here

-- and the row is one of those at marked places and the others
pub part_too : (bs : List Bool) (rows others : List Row) (k : ℕ) (x q : Row) → length bs ≡ length rows → k < length bs → get_or rows k x ≡ x
    → is_in (marked (list.set bs k true) rows ++ others) q ≡ (is_in (marked bs rows ++ others) q || eq_by_cmp row_cmp q x)
part_too bs rows others k x q same lt here =
    list_any-append (eq_by_cmp row_cmp q) (marked (list.set bs k true) rows) others
    ∙ ap (λ b. b || is_in others q) (marked_more bs rows k x q same lt here)
    ∙ behind (is_in (marked bs rows) q) (is_in others q) (eq_by_cmp row_cmp q x)
    ∙ ap (λ b. b || eq_by_cmp row_cmp q x) (sym (list_any-append (eq_by_cmp row_cmp q) (marked bs rows) others))

-- at no marked place there is none
pub none_marked : (n : ℕ) (rows : List Row) → marked (list.replicate n false) rows ≡ []
none_marked zero rows = refl
none_marked (suc n) [] = refl
none_marked (suc n) (r ∷ rows) = none_marked n rows

-- one place more that is not marked: its row is left too
more_left : (bs : List Bool) (rows : List Row) (i : ℕ) (r : Row) → length bs ≡ length rows → i < length bs → get_or bs i false ≡ false → r ≡ get_or rows i r
    → unmarked (take (suc i) bs) (take (suc i) rows) ≡ unmarked (take i bs) (take i rows) ++ r ∷ []
more_left [] rows i r same lt mark here = absurd (omega arith)
more_left (b ∷ bs) [] i r same lt mark here = absurd (omega arith)
more_left (true ∷ bs) (x ∷ rows) zero r same lt mark here = absurd (true≢false mark)
more_left (false ∷ bs) (x ∷ rows) zero r same lt mark here = ap (λ y. y ∷ []) (sym here)
more_left (true ∷ bs) (x ∷ rows) (suc i) r same lt mark here = more_left bs rows i r (omega arith) (omega arith) mark here
more_left (false ∷ bs) (x ∷ rows) (suc i) r same lt mark here = ap (λ l. x ∷ l) (more_left bs rows i r (omega arith) (omega arith) mark here)

pub one_left : (bs : List Bool) (rows : List Row) (i : ℕ) (r : Row) → length bs ≡ length rows → i < length bs → get_or bs i false ≡ false → r ≡ get_or rows i r
    → unmarked (take (i + 1) bs) (take (i + 1) rows) ≡ unmarked (take i bs) (take i rows) ++ r ∷ []
one_left bs rows i r same lt mark here = ap (λ n. unmarked (take n bs) (take n rows)) (add-one i) ∙ more_left bs rows i r same lt mark here

-- and one that is marked: no more is left
none_more : (bs : List Bool) (rows : List Row) (i : ℕ) → length bs ≡ length rows → i < length bs → get_or bs i false ≡ true
    → unmarked (take (suc i) bs) (take (suc i) rows) ≡ unmarked (take i bs) (take i rows)
none_more [] rows i same lt mark = absurd (omega arith)
none_more (b ∷ bs) [] i same lt mark = absurd (omega arith)
none_more (true ∷ bs) (x ∷ rows) zero same lt mark = refl
none_more (false ∷ bs) (x ∷ rows) zero same lt mark = absurd (true≢false (sym mark))
none_more (true ∷ bs) (x ∷ rows) (suc i) same lt mark = none_more bs rows i (omega arith) (omega arith) mark
none_more (false ∷ bs) (x ∷ rows) (suc i) same lt mark = ap (λ l. x ∷ l) (none_more bs rows i (omega arith) (omega arith) mark)

pub none_left : (bs : List Bool) (rows : List Row) (i : ℕ) → length bs ≡ length rows → i < length bs → get_or bs i false ≡ true
    → unmarked (take (i + 1) bs) (take (i + 1) rows) ≡ unmarked (take i bs) (take i rows)
none_left bs rows i same lt mark = ap (λ n. unmarked (take n bs) (take n rows)) (add-one i) ∙ none_more bs rows i same lt mark

-- a row more is in the list of the images
pub image_more : (f : Row → Row) (rows : List Row) (r q : Row) → is_in (map f (rows ++ r ∷ [])) q ≡ (is_in (map f rows) q || eq_by_cmp row_cmp q (f r))
image_more f [] r q = or_comm (eq_by_cmp row_cmp q (f r)) false
image_more f (x ∷ rows) r q = ap (λ b. eq_by_cmp row_cmp q (f x) || b) (image_more f rows r q) ∙ shifted (eq_by_cmp row_cmp q (f x)) (is_in (map f rows) q) (eq_by_cmp row_cmp q (f r))

-- one row more, that passes a test or does not
pub passing_more : (p : Row → Bool) (rows : List Row) (r : Row) → p r ≡ true → filter p (rows ++ r ∷ []) ≡ filter p rows ++ r ∷ []
passing_more p [] r t = ap (λ b. cond b (r ∷ []) []) t
passing_more p (x ∷ rows) r t =
    ap (λ l. cond (p x) (x ∷ l) l) (passing_more p rows r t)
    ∙ elim (p x) as (λ b. cond b (x ∷ filter p rows ++ r ∷ []) (filter p rows ++ r ∷ []) ≡ cond b (x ∷ filter p rows) (filter p rows) ++ r ∷ []) [ true ↦ refl | false ↦ refl ]

pub passing_same : (p : Row → Bool) (rows : List Row) (r : Row) → p r ≡ false → filter p (rows ++ r ∷ []) ≡ filter p rows
passing_same p [] r f = ap (λ b. cond b (r ∷ []) []) f
passing_same p (x ∷ rows) r f = ap (λ l. cond (p x) (x ∷ l) l) (passing_same p rows r f)

-- ---- marks of rows that rise

-- a row below others is none of them
apart : (r q : Row) (rows : List Row) → AllByRecursion (λ y. row_cmp r y ≡ Less) rows → eq_by_cmp row_cmp q r ≡ true → is_in rows q ≡ false
apart r q [] above tie = refl
apart r q (y ∷ ys) above tie = or_from _ _ (other (eq_by_cmp row_cmp q y) refl) (apart r q ys above.1 tie)
  where
    below : q ≡ y → row_cmp r r ≡ Less
    below is = subst (λ z. row_cmp r z ≡ Less) (sym is ∙ tied_row q r tie) above.0

    other : (b : Bool) → eq_by_cmp row_cmp q y ≡ b → eq_by_cmp row_cmp q y ≡ false
    other true t = absurd (true≢false (sym (row_itself r) ∙ ap is_eq (below (tied_row q y t))))
    other false f = f

marked_within : (bs : List Bool) (rows : List Row) (q : Row) → is_in rows q ≡ false → is_in (marked bs rows) q ≡ false
marked_within [] rows q out = refl
marked_within (b ∷ bs) [] q out = refl
marked_within (true ∷ bs) (r ∷ rows) q out = or_from _ _ (first_fails _ _ out) (marked_within bs rows q (second_fails (eq_by_cmp row_cmp q r) _ out))
marked_within (false ∷ bs) (r ∷ rows) q out = marked_within bs rows q (second_fails (eq_by_cmp row_cmp q r) _ out)

-- the rows at the other places are those that stand at no marked one
unmarked_is : (bs : List Bool) (rows : List Row) (q : Row) → length bs ≡ length rows → IsStrictlySortedBy row_cmp rows → is_in (unmarked bs rows) q ≡ (is_in rows q && not (is_in (marked bs rows) q))
unfolding IsStrictlySortedBy
unmarked_is [] [] q same rise = refl
unmarked_is [] (r ∷ rows) q same rise = absurd (omega arith)
unmarked_is (b ∷ bs) [] q same rise = refl
unmarked_is (true ∷ bs) (r ∷ rows) q same rise =
    left_out (eq_by_cmp row_cmp q r) (is_in rows q) (is_in (marked bs rows) q) _ (unmarked_is bs rows q (omega arith) rise.1) (apart r q rows rise.0)
unmarked_is (false ∷ bs) (r ∷ rows) q same rise =
    left_there (eq_by_cmp row_cmp q r) (is_in rows q) (is_in (marked bs rows) q) _ (unmarked_is bs rows q (omega arith) rise.1) (λ tie. marked_within bs rows q (apart r q rows rise.0 tie))

-- ---- the difference

-- the parts, as a set
abbrev pub parts_of : Parts → Rows → Rows
parts_of p S = set.from_list (parts_in p (set.items S))

has-parts : (p : Parts) (S : Rows) (q : Row) → has (parts_of p S) q ≡ (is_in (marked p.are_parts.items (set.items S)) q || is_in p.others.items q)
has-parts p S q = set.contains-from_list row_total (parts_in p (set.items S)) q ∙ list_any-append (eq_by_cmp row_cmp q) (marked p.are_parts.items (set.items S)) p.others.items

-- what is added: the known rows that are no parts
pub added_are : (p : Parts) (S : Rows) → length p.are_parts.items ≡ length (set.items S)
    → minus (set.from_list (unmarked p.are_parts.items (set.items S))) (set.from_list p.others.items) ≡ minus S (parts_of p S)
added_are p S same = set.same_set row_total row_exact _ _ (λ q.
    let i = is_in (set.items S) q in
    let m = is_in (marked p.are_parts.items (set.items S)) q in
    let o = is_in p.others.items q in
    has-minus (set.from_list (unmarked p.are_parts.items (set.items S))) (set.from_list p.others.items) q
    ∙ (λ k. (set.contains-from_list row_total (unmarked p.are_parts.items (set.items S)) q ∙ unmarked_is p.are_parts.items (set.items S) q same (items_rise S)) k && not (set.contains-from_list row_total p.others.items q k))
    ∙ added i m o
    ∙ sym (has-minus S (parts_of p S) q ∙ (λ k. set.contains-items S q k && not (has-parts p S q k))))

-- what is removed: the parts that are not known
pub removed_are : (p : Parts) (S : Rows) → minus (set.from_list p.others.items) S ≡ minus (parts_of p S) S
removed_are p S = set.same_set row_total row_exact _ _ (λ q.
    let i = is_in (set.items S) q in
    let m = is_in (marked p.are_parts.items (set.items S)) q in
    let o = is_in p.others.items q in
    has-minus (set.from_list p.others.items) S q
    ∙ (λ k. set.contains-from_list row_total p.others.items q k && not (set.contains-items S q k))
    ∙ removed i m o (marked_within p.are_parts.items (set.items S) q)
    ∙ sym (has-minus (parts_of p S) S q ∙ (λ k. has-parts p S q k && not (set.contains-items S q k))))

-- the parts of rows are the set of their list
pub parts_are : (p : Parts) (S : Rows) (rows : List Row) → AreParts (set.items S) p rows → parts_of p S ≡ set.from_list rows
parts_are p S rows are = set.same_set row_total row_exact _ _ (λ q.
    set.contains-from_list row_total (parts_in p (set.items S)) q ∙ are.1 q ∙ sym (set.contains-from_list row_total rows q))
