use Rattle.std.proofs.Common.{◌≡◌, ◌++◌, ap, sym, ◌∙◌, subst}
use Rattle.key_index.proofs.Common.{AreKeyed, IsTableOf, SameCols, rows_of, set_of, same_itself, listed_whole}
use Rattle.base_index.specs.Parts.{IsWhole, parts_of, rows_held, rows_next, rows_seen}
use Rattle.base_index.proofs.Bodies.{kept_itself}
use Rattle.base_index.proofs.Staging.{first_held, first_next, first_seen, first_whole}
use Rattle.base_index.proofs.body.Body.add_first.Goals as goal

pub indexes_of-requires : goal.indexes_of-requires
indexes_of-requires c =
    subst (λ xs. AreKeyed xs c.deref-3.result.now) (c.deref.ensures.value ∙ sym c.deref-2.ensures.value)
    (subst (AreKeyed c.deref.result.now) (sym c.deref-3.ensures.value) c.in_ok-list.ensures.keys)

pub returns-in_err-put_behind-clause-kept : goal.returns-in_err-put_behind-clause-kept
returns-in_err-put_behind-clause-kept c =
    let p = parts_of c.args.self.now in
    record {
      seen = λ i. rows_seen (record p { add = c.in_err-put_behind.ensures.stay i });
      held = λ i. rows_held (record p { add = c.in_err-put_behind.ensures.stay i });
      is_held = (kept_itself p).is_held;
      columns = (kept_itself p).columns;
      cols = same_itself p.indexes;
    }

pub returns-clause-whole : goal.returns-clause-whole
returns-clause-whole c =
    let p = parts_of c.args.self.now in
    let list = c.in_ok-list.list.items in
    let ixs = c.in_ok-indexes.indexes.items in
    let keyed : AreKeyed p.indexes list = subst (λ xs. AreKeyed xs list) c.deref.ensures.value c.in_ok-list.ensures.keys in
    let is : rows_of list ≡ c.args.rows.now = c.in_ok-list.ensures.rows ∙ ap set_of c.rows.ensures ∙ listed_whole c.args.rows.now in
    let index : IsTableOf c.args.rows.now ixs = subst (λ s. IsTableOf s ixs) (ap rows_of c.deref-3.ensures.value ∙ is) c.in_ok-indexes.ensures.table in
    let cols : SameCols p.indexes ixs = subst (λ xs. SameCols xs ixs) c.deref-2.ensures.value c.in_ok-indexes.ensures.cols in
    let tree : c.in_ok-tree.tree ≡ c.args.rows.now = c.in_ok-tree.ensures ∙ c.in_ok-copy.ensures in
    let items : c.put_behind.new.list.items ≡ p.add ++ list = c.in_ok-put_behind.ensures.items in
    subst IsWhole (sym (λ i. record p { rows = tree i; indexes = ixs; add = items i }))
    (first_whole p c.requires.whole c.requires.empty list c.args.rows.now ixs is index cols keyed c.requires.fits)

pub returns-clause-next : goal.returns-clause-next
returns-clause-next c =
    let p = parts_of c.args.self.now in
    let list = c.in_ok-list.list.items in
    let ixs = c.in_ok-indexes.indexes.items in
    let keyed : AreKeyed p.indexes list = subst (λ xs. AreKeyed xs list) c.deref.ensures.value c.in_ok-list.ensures.keys in
    let is : rows_of list ≡ c.args.rows.now = c.in_ok-list.ensures.rows ∙ ap set_of c.rows.ensures ∙ listed_whole c.args.rows.now in
    let index : IsTableOf c.args.rows.now ixs = subst (λ s. IsTableOf s ixs) (ap rows_of c.deref-3.ensures.value ∙ is) c.in_ok-indexes.ensures.table in
    let cols : SameCols p.indexes ixs = subst (λ xs. SameCols xs ixs) c.deref-2.ensures.value c.in_ok-indexes.ensures.cols in
    let tree : c.in_ok-tree.tree ≡ c.args.rows.now = c.in_ok-tree.ensures ∙ c.in_ok-copy.ensures in
    let items : c.put_behind.new.list.items ≡ p.add ++ list = c.in_ok-put_behind.ensures.items in
    (λ i. rows_next (record p { rows = tree i; indexes = ixs; add = items i }))
    ∙ first_next p c.requires.whole c.requires.empty list c.args.rows.now ixs is index cols keyed c.requires.fits

pub returns-clause-kept : goal.returns-clause-kept
returns-clause-kept c =
    let p = parts_of c.args.self.now in
    let list = c.in_ok-list.list.items in
    let ixs = c.in_ok-indexes.indexes.items in
    let keyed : AreKeyed p.indexes list = subst (λ xs. AreKeyed xs list) c.deref.ensures.value c.in_ok-list.ensures.keys in
    let is : rows_of list ≡ c.args.rows.now = c.in_ok-list.ensures.rows ∙ ap set_of c.rows.ensures ∙ listed_whole c.args.rows.now in
    let index : IsTableOf c.args.rows.now ixs = subst (λ s. IsTableOf s ixs) (ap rows_of c.deref-3.ensures.value ∙ is) c.in_ok-indexes.ensures.table in
    let cols : SameCols p.indexes ixs = subst (λ xs. SameCols xs ixs) c.deref-2.ensures.value c.in_ok-indexes.ensures.cols in
    let tree : c.in_ok-tree.tree ≡ c.args.rows.now = c.in_ok-tree.ensures ∙ c.in_ok-copy.ensures in
    let items : c.put_behind.new.list.items ≡ p.add ++ list = c.in_ok-put_behind.ensures.items in
    record {
      seen = (λ i. rows_seen (record p { rows = tree i; indexes = ixs; add = items i }))
          ∙ first_seen p c.requires.whole c.requires.empty list c.args.rows.now ixs is index cols keyed c.requires.fits;
      held = (λ i. rows_held (record p { rows = tree i; indexes = ixs; add = items i }))
          ∙ first_held p c.requires.whole c.requires.empty list c.args.rows.now ixs is index cols keyed c.requires.fits;
      is_held = (kept_itself p).is_held;
      columns = (kept_itself p).columns;
      cols = cols;
    }
