use Rattle.std.proofs.Common.{◌≡◌, subst, sym, []}
use Rattle.std.specs.Prelude.{IfOk}
use Rattle.lp_spec.specs.ModuleOrder.{IsModule}
use Rattle.lp_spec.specs.ShortNames.{NoneShort}
use Rattle.lp_check_laws.specs.ShapedPasses.{AreShaped}
use Rattle.holide_sig.specs.Modules.{declarations_of}
use Rattle.share_spec.specs.Folded.{entries_of, folded}
use Rattle.share.specs.Listings.{entries_in}
use Rattle.share.proofs.AskingLaws.{declarations-after, held-after}
use Rattle.share.proofs.folding.fold_by.Goals as goal

pub made_of-requires-clause-held : goal.made_of-requires-clause-held
made_of-requires-clause-held c = let e = c.in_ok-list.ensures in held-after c.args.source.now c.list.new.source e.decls e.keeps c.requires.held

pub made_of-requires-clause-is_module : goal.made_of-requires-clause-is_module
made_of-requires-clause-is_module c = let e = c.in_ok-list.ensures in subst IsModule
    (sym (declarations-after c.args.source.now c.list.new.source e.decls e.keeps c.requires.held)) c.requires.is_module

pub made_of-requires-clause-long : goal.made_of-requires-clause-long
made_of-requires-clause-long c = let e = c.in_ok-list.ensures in subst NoneShort
    (sym (declarations-after c.args.source.now c.list.new.source e.decls e.keeps c.requires.held)) c.requires.long

pub made_of-requires-clause-shaped : goal.made_of-requires-clause-shaped
made_of-requires-clause-shaped c = let e = c.in_ok-list.ensures in subst (AreShaped [])
    (sym (declarations-after c.args.source.now c.list.new.source e.decls e.keeps c.requires.held)) c.requires.shaped

pub made_of-requires-clause-listed : goal.made_of-requires-clause-listed
made_of-requires-clause-listed c =
    let e = c.in_ok-list.ensures in
    subst (λ m. entries_in m c.list.new.source.table c.list.new.folding.listing.entries.items ≡ entries_of m)
    (sym (declarations-after c.args.source.now c.list.new.source e.decls e.keeps c.requires.held)) e.listed

pub returns-clause-folded : goal.returns-clause-folded
returns-clause-folded c =
    let e = c.in_ok-list.ensures in
    subst (λ ds. IfOk c.made_of.result (λ m. declarations_of m ≡ folded ds))
    (declarations-after c.args.source.now c.list.new.source e.decls e.keeps c.requires.held) c.made_of.ensures.folded
