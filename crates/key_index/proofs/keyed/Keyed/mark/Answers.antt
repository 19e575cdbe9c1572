use Rattle.std.proofs.Common.{◌≡◌, ◌<◌, ap, sym, ◌∙◌, length, arith, true, slice_index_or}
use Rattle.key_index.specs.Key.{hash_key}
use Rattle.key_index.specs.Marks.{is_marked}
use Rattle.key_index.proofs.Lists.{inside}
use Rattle.key_index.proofs.keyed.Keyed.mark.Goals as goal

pub loop-key-preserved : goal.loop-key-preserved
loop-key-preserved c =
    let keys = c.args.self.now.keys.items in
    let n = c.loop-key.key-index in
    let key = c.key-item.result in
    let new = c.add.new.self in
    let within : n < length keys = omega (arith, c.loop-key-test.true, ap length c.deref-key-items.ensures.value) in
    let last : is_marked new (hash_key key) ≡ true = ap (is_marked new) (sym c.hash.ensures) ∙ c.in_ok-add.ensures.ok in
    let at = sym (c.key-item.is ∙ ap (λ xs. slice_index_or xs n key) c.deref-key-items.ensures.value) in (
      (λ i k low.
          let before = c.loop-key.invariant.0 i k in
          let stay = c.in_ok-add.ensures.stay (hash_key (slice_index_or keys i k)) in
          let now : i ≡ n → is_marked new (hash_key (slice_index_or keys i k)) ≡ true = λ e.
          ap (λ q. is_marked new (hash_key q)) (ap (λ j. slice_index_or keys j k) e ∙ inside keys n k key within ∙ at) ∙ last in
          grind (arith, low, before, stay, now)),
      (λ hash old. c.in_ok-add.ensures.stay hash (c.loop-key.invariant.1 hash old)),
    )
