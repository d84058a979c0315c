use Rattle.std.proofs.Common.{◌≡◌, ◌+◌, ℕ, subst, arith}
use Rattle.article_write_spec.specs.Lengths.{add, name_length}
use Rattle.article_count.specs.TermTasks.{IsTermTally}
use Rattle.article_count.proofs.terms.TermCount.count_three.Goals as goal

pub returns : goal.returns
returns c trees steps q m h =
    let one = name_length c.args.op.now in
    let two = name_length c.args.abs.now in
    let three = name_length c.args.rep.now in
    let sum : m.length + one + two + three ≡ m.length + (one + two + three) = omega arith in
    subst (λ (l : ℕ). IsTermTally trees steps q c.count_name-3.new.self (record m { length = l })) sum
    (c.count_name-3.ensures trees steps q (add two (add one m)) (c.count_name-2.ensures trees steps q (add one m) (c.count_name.ensures trees steps q m h)))
