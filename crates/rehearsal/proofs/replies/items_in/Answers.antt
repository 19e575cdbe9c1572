use Rattle.std.proofs.Common.{◌≡◌, ◌∙◌, ap, length, rules, sym, vec_len, option_map, unwrap_or}
use Rattle.serde_json.proofs.Views.{items_len-items_view}
use Rattle.serde_json.specs.Events.{items_len}
use Rattle.rehearsal.proofs.replies.items_in.Goals as goal

pub returns-in-Some : goal.returns-in-Some
returns-in-Some c =
    let long : vec_len c.in-Some.items.now ≡ length c.in-Some.items.now.items = search rules in
    c.len.ensures ∙ long ∙ sym (items_len-items_view c.in-Some.items.now.items) ∙ ap (λ o. unwrap_or (option_map items_len o) 0) c.in-Some.ensures
