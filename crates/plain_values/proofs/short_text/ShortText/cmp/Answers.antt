use Rattle.std.proofs.Common.{◌≡◌, sym, ◌∙◌}
use Rattle.std.specs.Ordering.{nat_cmp, ordering_then}
use Rattle.plain_values.specs.Order.{bytes_cmp}
use Rattle.plain_values.proofs.ShortLemmas.{by_numbers, numbers_cmp, first_other, behind_equal}
use Rattle.plain_values.proofs.short_text.ShortText.cmp.Goals as goal

pub returns-in_default : goal.returns-in_default
returns-in_default c =
    let n = numbers_cmp c.self.inside.bytes c.other.inside.bytes c.self.inside.len c.other.inside.len c.self.invariant c.other.invariant in
    let all : bytes_cmp c.args.self.now c.args.other.now ≡ ordering_then (n 8 0) (ordering_then (n 8 8) (n 6 16)) =
    (λ i. bytes_cmp (sym c.self.view_is i) (sym c.other.view_is i))
    ∙ by_numbers c.self.inside.bytes c.other.inside.bytes c.self.inside.len c.other.inside.len c.self.invariant c.other.invariant
    in
    let first : c.cmp.result ≡ n 8 0 = c.cmp.ensures ∙ (λ i. nat_cmp (c.number.ensures i) (c.number-2.ensures i)) in
    first ∙ first_other (bytes_cmp c.args.self.now c.args.other.now) (n 8 0) (ordering_then (n 8 8) (n 6 16)) all (λ e. c.in_default.not-Equal (first ∙ e))

pub returns-in_default-cmp : goal.returns-in_default-cmp
returns-in_default-cmp c =
    let n = numbers_cmp c.self.inside.bytes c.other.inside.bytes c.self.inside.len c.other.inside.len c.self.invariant c.other.invariant in
    let all : bytes_cmp c.args.self.now c.args.other.now ≡ ordering_then (n 8 0) (ordering_then (n 8 8) (n 6 16)) =
    (λ i. bytes_cmp (sym c.self.view_is i) (sym c.other.view_is i))
    ∙ by_numbers c.self.inside.bytes c.other.inside.bytes c.self.inside.len c.other.inside.len c.self.invariant c.other.invariant
    in
    let first : c.cmp.result ≡ n 8 0 = c.cmp.ensures ∙ (λ i. nat_cmp (c.number.ensures i) (c.number-2.ensures i)) in
    let second : c.cmp-in-Equal.result ≡ n 8 8 = c.cmp-in-Equal.ensures ∙ (λ i. nat_cmp (c.number-in-Equal.ensures i) (c.number-in-Equal-2.ensures i)) in
    second
    ∙ first_other (bytes_cmp c.args.self.now c.args.other.now) (n 8 8) (n 6 16)
    (behind_equal (bytes_cmp c.args.self.now c.args.other.now) (n 8 0) (ordering_then (n 8 8) (n 6 16)) all (sym first ∙ c.in-Equal.is)) (λ e. c.in_default-cmp.not-Equal (second ∙ e))

pub returns-in-Equal-cmp : goal.returns-in-Equal-cmp
returns-in-Equal-cmp c =
    let n = numbers_cmp c.self.inside.bytes c.other.inside.bytes c.self.inside.len c.other.inside.len c.self.invariant c.other.invariant in
    let all : bytes_cmp c.args.self.now c.args.other.now ≡ ordering_then (n 8 0) (ordering_then (n 8 8) (n 6 16)) =
    (λ i. bytes_cmp (sym c.self.view_is i) (sym c.other.view_is i))
    ∙ by_numbers c.self.inside.bytes c.other.inside.bytes c.self.inside.len c.other.inside.len c.self.invariant c.other.invariant
    in
    let first : c.cmp.result ≡ n 8 0 = c.cmp.ensures ∙ (λ i. nat_cmp (c.number.ensures i) (c.number-2.ensures i)) in
    let second : c.cmp-in-Equal.result ≡ n 8 8 = c.cmp-in-Equal.ensures ∙ (λ i. nat_cmp (c.number-in-Equal.ensures i) (c.number-in-Equal-2.ensures i)) in
    let third : c.cmp-in-Equal-cmp.result ≡ n 6 16 = c.cmp-in-Equal-cmp.ensures ∙ (λ i. nat_cmp (c.last_number.ensures i) (c.last_number-in-Equal-cmp.ensures i)) in
    third
    ∙ sym (behind_equal (bytes_cmp c.args.self.now c.args.other.now) (n 8 8) (n 6 16)
    (behind_equal (bytes_cmp c.args.self.now c.args.other.now) (n 8 0) (ordering_then (n 8 8) (n 6 16)) all (sym first ∙ c.in-Equal.is)) (sym second ∙ c.in-Equal-cmp.is))
