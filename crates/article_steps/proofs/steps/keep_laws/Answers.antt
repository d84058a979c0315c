use Rattle.std.proofs.Common.{◌≡◌, suc, ◌+◌, subst, ap, arith}
use Rattle.article_spec.specs.declared.commands.Item.TheVariants as item
use Rattle.article_spec.specs.declared.commands.Word.TheVariants as word
use Rattle.article_write_spec.specs.Drafts.{Draft, say_word, pops}
use Rattle.article_write_spec.specs.WrittenSteps.{keep_theorem}
use Rattle.article_lines.specs.NewSteps.{IsNew}
use Rattle.article_lines.specs.Things.{Keyed}
use Rattle.article_steps.proofs.SaidLaws.{appends-then}
use Rattle.article_steps.proofs.AddsLaws.{adds-then, adds-stop, adds-then-say, adds-stop-say, open-of}
use Rattle.article_steps.proofs.EachLaws.{adds-same}
use Rattle.article_steps.proofs.NewTheorems.{new-first}
use Rattle.article_steps.proofs.StepWriters.{appends-theorem, appends-pops}
use Rattle.article_steps.proofs.steps.keep_laws.Goals as goal

pub keep_theorem-requires-clause-room : goal.keep_theorem-requires-clause-room
keep_theorem-requires-clause-room g c = let next = c.requires.new.next in omega (arith, next)

pub keep_theorem-requires-clause-new : goal.keep_theorem-requires-clause-new
keep_theorem-requires-clause-new g c = let one : suc c.args.first ≡ c.args.first + 1 = omega arith in subst (IsNew c.args.keys.now) one c.requires.new.second

pub keep_theorem-requires-2-clause-room : goal.keep_theorem-requires-2-clause-room
keep_theorem-requires-2-clause-room g c =
    let next = c.requires.new.next in
    let count = ap (λ (k : Keyed). k.theorems) c.keep_theorem.ensures.kept in
    omega (arith, next, count)

pub keep_theorem-requires-2-clause-new : goal.keep_theorem-requires-2-clause-new
keep_theorem-requires-2-clause-new g c = new-first c.args.keys.now _ c.args.first (c.args.first + 1) c.keep_theorem.ensures.kept (omega arith)
    c.requires.new.first

pub returns-in_err-keep_theorem : goal.returns-in_err-keep_theorem
returns-in_err-keep_theorem g c = λ trees room o.
    let i = c.args.first in
    adds-stop trees (keep_theorem (suc i)) (λ (d : Draft). pops 3 (keep_theorem i d)) _ _ _ _ _ _ _ _ _ _ _
    (appends-then (keep_theorem i) (pops 3) (appends-theorem i) (appends-pops 3)) c.in_err-keep_theorem.was c.from_residual.ensures.0
    (adds-same trees _ (keep_theorem (suc i)) _ _ _ _ _ _ _ _ (λ d. let one : i + 1 ≡ suc i = omega arith in ap (λ n. keep_theorem n d) one)
    (c.keep_theorem.ensures.adds trees room o))

pub returns-in_err-keep_theorem-2 : goal.returns-in_err-keep_theorem-2
returns-in_err-keep_theorem-2 g c = λ trees room o.
    let i = c.args.first in
    let second = adds-same trees (keep_theorem (i + 1)) (keep_theorem (suc i)) _ _ _ _ _ _ _ _
    (λ d. let one : i + 1 ≡ suc i = omega arith in ap (λ n. keep_theorem n d) one) (c.keep_theorem.ensures.adds trees room o) in
    let first = c.keep_theorem-2.ensures.adds trees room (open-of trees _ _ _ _ _ _ _ _ _ _ c.in_ok-keep_theorem.was second) in
    adds-stop trees (λ (d : Draft). keep_theorem i (keep_theorem (suc i) d)) (pops 3) _ _ _ _ _ _ _ _ _ _ _ (appends-pops 3) c.in_err-keep_theorem-2.was
    c.from_residual-in_err-keep_theorem-2.ensures.0
    (adds-then trees (keep_theorem (suc i)) (keep_theorem i) _ _ _ _ _ _ _ _ _ _ _ _ _ _ (appends-theorem i) c.in_ok-keep_theorem.was second first)

pub returns-in_err-write_word : goal.returns-in_err-write_word
returns-in_err-write_word g c = λ trees room o.
    let i = c.args.first in
    let second = adds-same trees (keep_theorem (i + 1)) (keep_theorem (suc i)) _ _ _ _ _ _ _ _
    (λ d. let one : i + 1 ≡ suc i = omega arith in ap (λ n. keep_theorem n d) one) (c.keep_theorem.ensures.adds trees room o) in
    let first = c.keep_theorem-2.ensures.adds trees room (open-of trees _ _ _ _ _ _ _ _ _ _ c.in_ok-keep_theorem.was second) in
    let both = adds-then trees (keep_theorem (suc i)) (keep_theorem i) _ _ _ _ _ _ _ _ _ _ _ _ _ _ (appends-theorem i) c.in_ok-keep_theorem.was second first in
    adds-stop trees (λ (d : Draft). say_word word.Pop (keep_theorem i (keep_theorem (suc i) d))) (pops 2) _ _ _ _ _ _ _ _ _ _ _ (appends-pops 2)
    c.in_err-write_word.was c.from_residual-in_err-write_word.ensures.0
    (adds-then-say trees (λ (d : Draft). keep_theorem i (keep_theorem (suc i) d)) (item.Word word.Pop) _ _ _ _ _ _ _ _ _ _ _ _ c.in_ok-keep_theorem-2.was both
    c.write_word.ensures)

pub returns-in_err-write_word-2 : goal.returns-in_err-write_word-2
returns-in_err-write_word-2 g c = λ trees room o.
    let i = c.args.first in
    let second = adds-same trees (keep_theorem (i + 1)) (keep_theorem (suc i)) _ _ _ _ _ _ _ _
    (λ d. let one : i + 1 ≡ suc i = omega arith in ap (λ n. keep_theorem n d) one) (c.keep_theorem.ensures.adds trees room o) in
    let first = c.keep_theorem-2.ensures.adds trees room (open-of trees _ _ _ _ _ _ _ _ _ _ c.in_ok-keep_theorem.was second) in
    let both = adds-then trees (keep_theorem (suc i)) (keep_theorem i) _ _ _ _ _ _ _ _ _ _ _ _ _ _ (appends-theorem i) c.in_ok-keep_theorem.was second first in
    let one = adds-then-say trees (λ (d : Draft). keep_theorem i (keep_theorem (suc i) d)) (item.Word word.Pop) _ _ _ _ _ _ _ _ _ _ _ _
    c.in_ok-keep_theorem-2.was both c.write_word.ensures in
    adds-stop-say trees (λ (d : Draft). pops 2 (keep_theorem i (keep_theorem (suc i) d))) (item.Word word.Pop) _ _ _ _ _ _ _ _ _ _ _ c.in_err-write_word-2.was
    c.from_residual-in_err-write_word-2.ensures.0
    (adds-then-say trees (λ (d : Draft). say_word word.Pop (keep_theorem i (keep_theorem (suc i) d))) (item.Word word.Pop) _ _ _ _ _ _ _ _ _ _ _ _
    c.in_ok-write_word.was one c.write_word-2.ensures)

pub returns : goal.returns
returns g c = λ trees room o.
    let i = c.args.first in
    let second = adds-same trees (keep_theorem (i + 1)) (keep_theorem (suc i)) _ _ _ _ _ _ _ _
    (λ d. let one : i + 1 ≡ suc i = omega arith in ap (λ n. keep_theorem n d) one) (c.keep_theorem.ensures.adds trees room o) in
    let first = c.keep_theorem-2.ensures.adds trees room (open-of trees _ _ _ _ _ _ _ _ _ _ c.in_ok-keep_theorem.was second) in
    let both = adds-then trees (keep_theorem (suc i)) (keep_theorem i) _ _ _ _ _ _ _ _ _ _ _ _ _ _ (appends-theorem i) c.in_ok-keep_theorem.was second first in
    let one = adds-then-say trees (λ (d : Draft). keep_theorem i (keep_theorem (suc i) d)) (item.Word word.Pop) _ _ _ _ _ _ _ _ _ _ _ _
    c.in_ok-keep_theorem-2.was both c.write_word.ensures in
    let two = adds-then-say trees (λ (d : Draft). say_word word.Pop (keep_theorem i (keep_theorem (suc i) d))) (item.Word word.Pop) _ _ _ _ _ _ _ _ _ _ _ _
    c.in_ok-write_word.was one c.write_word-2.ensures in
    adds-then-say trees (λ (d : Draft). pops 2 (keep_theorem i (keep_theorem (suc i) d))) (item.Word word.Pop) _ _ _ _ _ _ _ _ _ _ _ _ c.in_ok-write_word-2.was
    two c.write_word-3.ensures
