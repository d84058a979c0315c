use Rattle.std.proofs.Common.{arith, length, ap, ◌∙◌, ◌||◌, subst, ◌≡◌, ◌≤◌, ◌<◌, ℕ, true, false}
use Rattle.article_lines.specs.Flagged.{flag}
use Rattle.article_reach.specs.Least.{is_among}
use Rattle.article_reach.proofs.LeastLaws.{flags-IsLeast}
use Rattle.article_reach.proofs.least.least_free.Goals as goal

pub returns : goal.returns
returns c =
    let ns = c.args.numbers.now in
    let flags = c.mark_numbers.new.flags.items in
    let r = c.first_unset.result in
    let one = c.mark_numbers.ensures.count in
    let two = c.in_ok-taken.ensures.count in
    let small = c.mark_numbers.new.flags.ok in
    let value : c.deref.result.now ≡ flags = c.deref.ensures.value in
    flags-IsLeast ns flags r (one ∙ two) (omega (arith, one, two, small))
    (λ i l. c.mark_numbers.ensures.each i (omega (arith, l, one)) ∙ ap (λ b. b || is_among ns i) (c.in_ok-taken.ensures.unset i))
    (subst (λ fs. r ≤ length fs) value c.first_unset.ensures.within)
    (subst (λ fs. r < length fs → flag fs r ≡ false) value c.first_unset.ensures.unset)
    (subst (λ fs. (i : ℕ) → i < r → flag fs i ≡ true) value c.first_unset.ensures.set)
