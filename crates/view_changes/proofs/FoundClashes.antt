-- Clashes as they are found.
use Rattle.std.proofs.Common.{◌≡◌, ◌∙◌, ◌<◌, List, [], ◌∷◌, ◌++◌, length, slice_index_or, ap, sym, subst, refl, arith, Option, Some, None, Err}
use Rattle.lens_laws.proofs.Common.{clash_is}
use Rattle.lens_specs.specs.Common.{Edge, Rows, violating_pair}
use Rattle.lens_specs.specs.Sort as spec
use Rattle.fd_tree.specs.ClashView.{shown_clash}
use Rattle.fd_tree.specs.declared.clash.Clash.{Clash}
use Rattle.server_specs.specs.Common.{unless_clash, EditRefusal}
use Rattle.server_specs.specs.EditRefusal as refusals

-- the edge after those before it
behind : (before : List Edge) (e : Edge) (after : List Edge) (d : Edge) → (length before < length (before ++ e ∷ after)) × (slice_index_or (before ++ e ∷ after) (length before) d ≡ e)
behind [] e after d = (omega arith, refl)
behind (k ∷ ks) e after d = let w = behind ks e after d in (omega (arith, w.0), w.1)

-- the clash that was found is the definition's, and its edge is at its place
pub record IsFoundClash (T : List Edge) (M : Rows) (found : Clash) : Type 0 where
  pub clash : spec.Clash
  pub is : Rattle.lens_specs.specs.Sort.violating_pair T M ≡ Some clash
  pub below : found.edge < length T
  pub edge : (d : Edge) → clash.edge ≡ slice_index_or T found.edge d
  pub first : found.first ≡ clash.first
  pub second : found.second ≡ clash.second

of_clash : (T : List Edge) (M : Rows) (found : Clash) (o : Option spec.Clash) → violating_pair T M ≡ o → Some found ≡ shown_clash o → IsFoundClash T M found
of_clash T M found None is e = cc
of_clash T M found (Some c) is e =
    let w = clash_is T M c is in
    let place : found.edge ≡ length w.before = (let p : found.edge ≡ c.place = cc in omega (arith, p, w.place)) in
    record {
      clash = c;
      is = is;
      below = subst (λ n. n < length T) (sym place) (subst (λ F. length w.before < length F) (sym w.parts) (behind w.before c.edge w.after c.edge).0);
      edge = λ d. sym (ap (λ n. slice_index_or T n d) place ∙ ap (λ F. slice_index_or F (length w.before) d) w.parts ∙ (behind w.before c.edge w.after d).1);
      first = cc;
      second = cc;
    }

pub found_clash : (T : List Edge) (M : Rows) (found : Clash) → Some found ≡ shown_clash (violating_pair T M) → IsFoundClash T M found
found_clash T M found e = of_clash T M found (violating_pair T M) refl e

-- a clash that is there is told
pub clash_asked : (o : Option spec.Clash) (c : spec.Clash) (N : Rows) (why : EditRefusal) → o ≡ Some c → why ≡ refusals.clash c.edge c.first c.second → unless_clash o N ≡ Err why
clash_asked o c N why is told = ap (λ p. unless_clash p N) is ∙ ap Err (sym told)
