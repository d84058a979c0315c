use Rattle.std.proofs.Common.{[], ◌∙◌, ◌+◌, ap, subst, sym, arith, refl}
use Rattle.std.specs.Prelude.{string_bytes}
use Rattle.std.proofs.lemmas.Grind.{common_steps}
use Rattle.bridge_base.specs.Gaining.{begins_none}
use Rattle.bridge_reading.specs.Halts.{HaltsText, OfText, Passes, bytes_told}
use Rattle.bridge_reading.specs.Stops.{Stops, StopsBegun}
use Rattle.bridge_spec.specs.Calls.{names_in}
use Rattle.bridge_answer.specs.Beginning.{begins_front_of_all}
use Rattle.bridge_reading.proofs.BegunArticles.{file-begun, halted-StopsBegun, first-begun, all-begun}
use Rattle.bridge_reading.proofs.PassedArticles.{HavePassed, none-passed, file-passed, file-stopped, all-passed, all-passed-version}
use Rattle.bridge_reading.proofs.articles.run_articles.Goals as goal

pub loop-file-init : goal.loop-file-init
loop-file-init g c = record {
  count = grind (arith, common_steps);
  told = refl;
  number = refl;
  begun = begins_none (g.H.Shelf.begun c.args.shelf.now);
  passed = subst (HavePassed (g.H.Shelf.told c.args.shelf.now) []) (sym c.requires.begun) (none-passed (g.H.Shelf.told c.args.shelf.now));
}

pub returns-in-Err-clause-refused : goal.returns-in-Err-clause-refused
returns-in-Err-clause-refused g c =
    let name = c.as_str.result.now in
    subst (λ stop. Stops stop (g.H.Shelf.told c.args.shelf.now) (names_in c.args.files.now)) (sym c.stop_in.ensures)
    (file-stopped (g.H.Shelf.told c.args.shelf.now) c.args.files.now c.loop-file.file-index _ name c.loop-file.machine _ c.in-Err.halt c.loop-file-test.true
    (c.as_str.ensures.value ∙ ap string_bytes c.file-item.is)
    (ap (λ n. n + 1) c.loop-file.invariant.number) c.loop-file.invariant.passed
    (subst (λ told. HaltsText c.in-Err.halt (bytes_told told name) c.loop-file.machine) c.loop-file.invariant.told c.in-Err.ensures.refused))

pub returns-in-Err-clause-refused_begun : goal.returns-in-Err-clause-refused_begun
returns-in-Err-clause-refused_begun g c =
    subst (λ stop. StopsBegun stop (g.H.Shelf.begun c.args.shelf.now) (names_in c.args.files.now) (g.H.Shelf.begun c.read_article.new.shelf))
    (sym c.stop_in.ensures)
    (halted-StopsBegun _ _ c.args.files.now c.loop-file.file-index _ c.in-Err.halt (ap (λ n. n + 1) c.loop-file.invariant.number)
    (file-begun _ _ c.args.files.now _ c.loop-file.file-index _ c.as_str.result.now c.loop-file-test.true
    (c.as_str.ensures.value ∙ ap string_bytes c.file-item.is) c.loop-file.invariant.begun c.read_article.ensures.begun))

pub returns-in-Err-clause-front_begun : goal.returns-in-Err-clause-front_begun
returns-in-Err-clause-front_begun g c =
    first-begun _ _ c.args.files.now (c.loop-file.file-index + 1) (let l = c.loop-file-test.true in omega (arith, l))
    (file-begun _ _ c.args.files.now _ c.loop-file.file-index _ c.as_str.result.now c.loop-file-test.true
    (c.as_str.ensures.value ∙ ap string_bytes c.file-item.is) c.loop-file.invariant.begun c.read_article.ensures.begun)

pub loop-file-preserved : goal.loop-file-preserved
loop-file-preserved g c =
    let name = c.as_str.result.now in
    record {
      count = grind (arith, common_steps);
      told = c.in_default.ensures.told_kept ∙ c.loop-file.invariant.told;
      number = ap (λ n. n + 1) c.loop-file.invariant.number;
      begun = file-begun _ _ c.args.files.now _ c.loop-file.file-index _ name c.loop-file-test.true (c.as_str.ensures.value ∙ ap string_bytes c.file-item.is)
          c.loop-file.invariant.begun c.read_article.ensures.begun;
      passed = file-passed (g.H.Shelf.told c.args.shelf.now) c.args.files.now c.loop-file.file-index _ name c.loop-file.machine _ c.loop-file-test.true
          (c.as_str.ensures.value ∙ ap string_bytes c.file-item.is)
          c.loop-file.invariant.passed
          (subst (λ told. OfText (bytes_told told name) (λ text. Passes text c.loop-file.machine c.read_article.new.machine)) c.loop-file.invariant.told
          c.in_default.ensures.passed);
    }

pub returns-clause-accepted : goal.returns-clause-accepted
returns-clause-accepted g c = all-passed (g.H.Shelf.told c.args.shelf.now) c.args.files.now c.loop-file.file-index c.loop-file.machine c.loop-file-test.false
    c.loop-file.invariant.passed

pub returns-clause-all_begun : goal.returns-clause-all_begun
returns-clause-all_begun g c = all-begun _ _ c.args.files.now c.loop-file.file-index c.loop-file-test.false c.loop-file.invariant.begun

pub returns-clause-front_begun : goal.returns-clause-front_begun
returns-clause-front_begun g c = begins_front_of_all _ _ (names_in c.args.files.now)
    (all-begun _ _ c.args.files.now c.loop-file.file-index c.loop-file-test.false c.loop-file.invariant.begun)

pub returns-clause-version : goal.returns-clause-version
returns-clause-version g c = all-passed-version (g.H.Shelf.told c.args.shelf.now) c.args.files.now c.loop-file.file-index c.loop-file.machine
    c.loop-file-test.false c.loop-file.invariant.passed
