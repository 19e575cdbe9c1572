-- The first clash of rows with a tree is one.
use Rattle.std.proofs.Common.{◌≡◌, ℕ, suc, ◌+◌, List, [], ◌∷◌, ◌++◌, length, Option, Some, None, refl, sym, ap, subst, ◌∙◌, arith, ◌≢◌}
use Rattle.plain_values.proofs.Common.{true≢false, ordering_reverse, Ordering, Less, Equal, Greater, row_cmp, Row}
use Rattle.lens_laws.proofs.Common.{clash_is, clash_none}
use Rattle.fd_laws.proofs.Common.{row_total, row_exact}
use Rattle.lens_laws.specs.Checks.{IsClash, IsLeastClash, IsFirstClash}
use Rattle.lens_laws.proofs.EditChecks.{later_both}
use Rattle.lens_specs.specs.Common.{Rows, Edge, Meets, MeetsTree, Clash, violating_pair}

-- two rows that are both no later are one
pub least_is_one : (a b : Row) (o : Ordering) → row_cmp a b ≡ o → o ≢ Greater → row_cmp b a ≢ Greater → a ≡ b
least_is_one a b Less is h k = absurd (k (row_total.antisymm b a ∙ ap ordering_reverse is))
least_is_one a b Equal is h k = row_exact a b is
least_is_one a b Greater is h k = absurd (h refl)

least_pairs : (e : Edge) (M : Rows) (r s p q : Row) → IsLeastClash e M r s → IsLeastClash e M p q → (r ≡ p) × (s ≡ q)
least_pairs e M r s p q a b = later_both r s p q (a.least p q b.clash) (b.least r s a.clash)

-- rows that meet an edge have no clash on it
met_no_clash : (e : Edge) (M : Rows) (r s : Row) → Meets M e.left e.right → IsClash e M r s → ⊥
met_no_clash e M r s h c = true≢false (sym (h r s c.first c.second c.left) ∙ c.right)

-- rows that meet the tree have no clash with it
met_not_first : (M : Rows) (before : List Edge) (e : Edge) (after : List Edge) (r s : Row) → MeetsTree M (before ++ e ∷ after) → IsClash e M r s → ⊥
met_not_first M [] e after r s h c = met_no_clash e M r s h.0 c
met_not_first M (k ∷ ks) e after r s h c = met_not_first M ks e after r s h.1 c

same_clash : (c d : Clash) → c.place ≡ d.place → c.edge ≡ d.edge → c.first ≡ d.first → c.second ≡ d.second → c ≡ d
same_clash c d a b e f = λ i. record { place = a i; edge = b i; first = e i; second = f i }

heads : (e k : Edge) (es ks : List Edge) → e ∷ es ≡ k ∷ ks → (e ≡ k) × (es ≡ ks)
heads e k es ks h = (cc, cc)

-- the edges before it, the edge itself and the edges after it, for two clashes that are both first
unique : (M : Rows) (n : ℕ) (c d : Clash) (before after before' after' : List Edge) → before ++ c.edge ∷ after ≡ before' ++ d.edge ∷ after'
    → c.place ≡ n + length before → d.place ≡ n + length before' → MeetsTree M before → MeetsTree M before'
    → IsLeastClash c.edge M c.first c.second → IsLeastClash d.edge M d.first d.second → c ≡ d
unique M n c d [] after [] after' parts p q h k a b =
    let e = heads c.edge d.edge after after' parts in
    let w = least_pairs d.edge M c.first c.second d.first d.second (subst (λ g. IsLeastClash g M c.first c.second) e.0 a) b in
    same_clash c d (p ∙ sym q) e.0 w.0 w.1
unique M n c d [] after (e ∷ es) after' parts p q h k a b =
    absurd (met_no_clash c.edge M c.first c.second (subst (λ g. Meets M g.left g.right) (sym (heads c.edge e after (es ++ d.edge ∷ after') parts).0) k.0) a.clash)
unique M n c d (e ∷ es) after [] after' parts p q h k a b =
    absurd (met_no_clash d.edge M d.first d.second (subst (λ g. Meets M g.left g.right) (heads e d.edge (es ++ c.edge ∷ after) after' parts).0 h.0) b.clash)
unique M n c d (e ∷ es) after (f ∷ fs) after' parts p q h k a b =
    unique M (suc n) c d es after fs after' (heads e f (es ++ c.edge ∷ after) (fs ++ d.edge ∷ after') parts).1 (omega arith) (omega arith) h.1 k.1 a b

first_is_one : (T : List Edge) (M : Rows) (c d : Clash) → IsFirstClash 0 T M c → IsFirstClash 0 T M d → c ≡ d
first_is_one T M c d a b = unique M 0 c d a.before a.after b.before b.after (sym a.parts ∙ b.parts) a.place b.place a.met b.met a.least b.least

-- a clash that is the first is the one that is found
pub clash_of_first : (T : List Edge) (M : Rows) (c : Clash) → IsFirstClash 0 T M c → (o : Option Clash) → violating_pair T M ≡ o → o ≡ Some c
clash_of_first T M c a None is = absurd (met_not_first M a.before c.edge a.after c.first c.second (subst (MeetsTree M) a.parts (clash_none T M is)) a.least.clash)
clash_of_first T M c a (Some d) is = ap Some (first_is_one T M d c (clash_is T M d is) a)
