-- Calls that were told, one after another.
use Rattle.std.proofs.Common.{List, [], ◌++◌, sym, ap, ◌∙◌, append_assoc, append-nil, Option, None, Some}
use Rattle.io_specs.specs.Calls.{Adds}

-- what holds of the calls that were added may be put otherwise
pub Adds-weaker : {C : Type 0} (P Q : List C → Type 0) (old new : Option (List C)) → ((calls : List C) → P calls → Q calls) → Adds P old new → Adds Q old new
Adds-weaker P Q None None f p = tt
Adds-weaker P Q None (Some ys) f p = absurd p
Adds-weaker P Q (Some xs) None f p = tt
Adds-weaker P Q (Some xs) (Some ys) f p = (p.0, p.1, f p.0 p.2)

-- no call was added
pub Adds-none : {C : Type 0} (P : List C → Type 0) (known : Option (List C)) → P [] → Adds P known known
Adds-none P None h = tt
Adds-none P (Some xs) h = ([], sym (append-nil xs), h)

-- calls were added, and then others
pub Adds-then : {C : Type 0} (P Q R : List C → Type 0) (old mid new : Option (List C)) → ((first later : List C) → P first → Q later → R (first ++ later)) → Adds P old mid → Adds Q mid new → Adds R old new
Adds-then P Q R None None None f p q = tt
Adds-then P Q R None None (Some zs) f p q = absurd q
Adds-then P Q R None (Some ys) None f p q = tt
Adds-then P Q R None (Some ys) (Some zs) f p q = absurd p
Adds-then P Q R (Some xs) None None f p q = tt
Adds-then P Q R (Some xs) None (Some zs) f p q = absurd q
Adds-then P Q R (Some xs) (Some ys) None f p q = tt
Adds-then P Q R (Some xs) (Some ys) (Some zs) f p q =
    (p.0 ++ q.0, q.1 ∙ ap (λ v. v ++ q.0) p.1 ∙ append_assoc xs p.0 q.0, f p.0 q.0 p.2 q.2)
