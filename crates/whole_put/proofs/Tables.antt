-- What is seen of entries, and of the map that has them.
use Rattle.std.proofs.Common.{◌≡◌, ◌∙◌, Bool, true, false, List, [], ◌∷◌, ap, cond, refl, sym, Option, Some, option_map}
use Rattle.plain_values.proofs.Common.{is_at, lookup, bytes_cmp}
use Rattle.std.specs.FinMap as finmap
use Rattle.std.specs.List.{AllZip}
use Rattle.lens_specs.specs.Common.{Name}
use Rattle.lens_laws.proofs.Common.{looked_up, updated}
use Rattle.whole_put.specs.Seen.{seen_entries}

module _ {X Y : Type 0} (f : X → Y) where
  seen_choice : (b : Bool) (v : X) (later : Option X) → cond b (Some (f v)) (option_map f later) ≡ option_map f (cond b (Some v) later)
  seen_choice true v later = refl
  seen_choice false v later = refl

  found_seen : (es : List (Name × X)) (q : Name) → lookup (is_at (bytes_cmp q)) (seen_entries f es) ≡ option_map f (lookup (is_at (bytes_cmp q)) es)
  found_seen [] q = refl
  found_seen (e ∷ es) q =
      ap (cond (is_at (bytes_cmp q) e.0) (Some (f e.1))) (found_seen es q) ∙ seen_choice (is_at (bytes_cmp q) e.0) e.1 (lookup (is_at (bytes_cmp q)) es)

  -- what is seen of the first entry at a name is what the map has there
  pub seen_at : (es : List (Name × X)) (q : Name) → option_map f (lookup (is_at (bytes_cmp q)) es) ≡ finmap.get (finmap.from_entries {R = bytes_cmp} (seen_entries f es)) q
  seen_at es q = sym (found_seen es q) ∙ looked_up (seen_entries f es) q

  -- entries that have one more value are seen as the map with what is seen of it
  pub seen_updated : (old new : List (Name × X)) (k : Name) (v : X)
      → ((q : Name) → lookup (is_at (bytes_cmp q)) new ≡ cond (is_at (bytes_cmp k) q) (Some v) (lookup (is_at (bytes_cmp q)) old))
      → finmap.from_entries {R = bytes_cmp} (seen_entries f new) ≡ finmap.insert (finmap.from_entries {R = bytes_cmp} (seen_entries f old)) k (f v)
  seen_updated old new k v h = updated (seen_entries f old) (seen_entries f new) k (f v) (λ q.
      found_seen new q ∙ ap (option_map f) (h q) ∙ sym (seen_choice (is_at (bytes_cmp k) q) v (lookup (is_at (bytes_cmp q)) old))
      ∙ ap (cond (is_at (bytes_cmp k) q) (Some (f v))) (sym (found_seen old q)))

  -- entries of the same names, of whose values the same is seen, are seen alike
  pub seen_alike : (old new : List (Name × X)) → AllZip (λ p q. (q.0 ≡ p.0) × (f q.1 ≡ f p.1)) old new → seen_entries f new ≡ seen_entries f old
  seen_alike [] [] h = refl
  seen_alike [] (n ∷ new) h = absurd h
  seen_alike (o ∷ old) [] h = absurd h
  seen_alike (o ∷ old) (n ∷ new) h = λ i. (h.0.0 i, h.0.1 i) ∷ seen_alike old new h.1 i
