use Rattle.std.proofs.Common.{◌≡◌, ap, sym, ◌∙◌, subst, rules, true, false, IfOk}
use Rattle.plain_values.specs.SortedSet as set
use Rattle.key_index.specs.Index.{has_key}
use Rattle.key_index.specs.Key.{hash_key, key_of}
use Rattle.key_index.proofs.Common.{IsTableOf, cols_of, rows_of, slice_behind}
use Rattle.key_index.specs.Marks.{is_marked}
use Rattle.base_index.specs.Need.{has_cols}
use Rattle.base_index.specs.Parts.{parts_of, rows_seen, to_come, to_go}
use Rattle.key_index.proofs.Keys.{agreeing_rows}
use Rattle.key_index.proofs.Marked.{all_shown_there}
use Rattle.key_index.proofs.Views.{filter_less}
use Rattle.base_index.proofs.body.Body.find.Goals as goal

pub find_by-requires : goal.find_by-requires
find_by-requires c = subst (λ xs. has_cols (cols_of xs) c.args.cols.now ≡ true) (sym c.deref.ensures.value) c.requires.index

pub returns-then-not-has : goal.returns-then-not-has
returns-then-not-has c =
    let b = parts_of c.args.self.now in
    let cols = c.args.cols.now in
    let key = key_of cols c.args.key.now in
    let key_is : c.of-key.result ≡ key = c.of-key.ensures ∙ (λ i. key_of (c.in_ok-copy-2.ensures i) (c.in_ok-copy.ensures i)) in
    let found = c.in_ok-found.ensures b.rows (subst (IsTableOf b.rows) (sym c.deref.ensures.value) c.requires.whole.index) ∙ ap (λ k. set.filter (has_key cols k) b.rows) key_is in
    let come = slice_behind c.deref-2.result.now c.args.self.now.add.items c.args.self.now.added c.deref-2.ensures.value in
    let none : c.has.result ≡ false = search rules in
    let unmarked : is_marked b.marks (hash_key key) ≡ false = ap (λ k. is_marked b.marks (hash_key k)) (sym key_is) ∙ ap (is_marked b.marks) (sym c.hash.ensures) ∙ sym c.has.ensures ∙ none in
    c.in_ok-old.ensures ∙ (λ i. set.difference (found i) (rows_of (come i))) ∙ filter_less (has_key cols key) b.rows (to_come b)
    ∙ all_shown_there b.marks b.indexes b.hidden cols key c.requires.whole.hidden_marked c.requires.index unmarked (set.difference b.rows (to_come b)) (to_go b)
    ∙ agreeing_rows cols c.args.key.now (rows_seen b)

pub returns : goal.returns
returns c =
    let b = parts_of c.args.self.now in
    let cols = c.args.cols.now in
    let key = key_of cols c.args.key.now in
    let key_is : c.of-key.result ≡ key = c.of-key.ensures ∙ (λ i. key_of (c.in_ok-copy-2.ensures i) (c.in_ok-copy.ensures i)) in
    let found = c.in_ok-found.ensures b.rows (subst (IsTableOf b.rows) (sym c.deref.ensures.value) c.requires.whole.index) ∙ ap (λ k. set.filter (has_key cols k) b.rows) key_is in
    let come = slice_behind c.deref-2.result.now c.args.self.now.add.items c.args.self.now.added c.deref-2.ensures.value in
    let old = c.in_ok-old.ensures ∙ (λ i. set.difference (found i) (rows_of (come i))) ∙ filter_less (has_key cols key) b.rows (to_come b) in
    subst (λ s. IfOk c.shown_of.result (λ found. found ≡ s))
    (ap (λ s. set.difference s (set.difference b.hidden (to_go b))) old ∙ filter_less (has_key cols key) (set.difference b.rows (to_come b)) (set.difference b.hidden (to_go b))
    ∙ agreeing_rows cols c.args.key.now (rows_seen b)) c.shown_of.ensures
