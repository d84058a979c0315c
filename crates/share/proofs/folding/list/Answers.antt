use Rattle.std.proofs.Common.{◌≤◌, ◌∙◌, ap, arith, length, subst, sym}
use Rattle.std.specs.Prelude.{min}
use Rattle.std.proofs.lemmas.Result.{on_ok_weaker}
use Rattle.holide_sig.specs.Modules.{declarations_of}
use Rattle.share.specs.Counts.{Agrees}
use Rattle.share.specs.Listings.{counted}
use Rattle.share.proofs.FoldingLaws.{all-listed, asking-none}
use Rattle.share.proofs.folding.list.Goals as goal

pub list_rest-requires-clause-listing : goal.list_rest-requires-clause-listing
list_rest-requires-clause-listing c =
    let s = c.args.source.now in
    record {
      asking = asking-none s _ _ c.requires.held c.requires.begun.answers c.requires.begun.waiting;
      within = subst (λ xs. length xs ≤ length s.table) (sym c.deref.ensures.value) c.in_ok-count.ensures.within;
      known = c.in_ok-list_kept.ensures.known (length s.decls) (length c.deref.result.now) (length s.table)
          (omega (arith, c.min-first.ensures, c.len.ensures.count));
    }

pub returns-clause-listed : goal.returns-clause-listed
returns-clause-listed c =
    let s = c.args.source.now in
    on_ok_weaker c.list_rest.result
    (λ h. all-listed s c.list_rest.new.source.table c.min-first.result c.count.new.counts.items c.list_kept.new.entries.items
    c.list_rest.new.listing.entries.items (c.min-first.ensures ∙ ap (λ k. min k 2) c.len.ensures.count) c.in_ok-count.ensures.counted
    (c.in_ok-list_kept.ensures.listed (declarations_of s) s.table)
    (λ all a. h c.requires.is_module all (subst (λ xs. Agrees s.table xs (counted all)) (sym c.deref.ensures.value) a)))
    c.list_rest.ensures.listed
