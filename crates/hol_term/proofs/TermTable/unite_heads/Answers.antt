use Rattle.std.proofs.Common.{arith, subst}
use Rattle.std.proofs.lemmas.List.{drop_all, drop_more}
use Rattle.hol_term.proofs.FoundLaws.{IsNaming, naming_begins, naming_goes_on, naming_ends}
use Rattle.hol_term.proofs.TermTable.unite_heads.Goals as goal

pub loop-id-init : goal.loop-id-init
loop-id-init c = rw c.requires.none (naming_begins _ _ c.requires.known)

pub loop-id-preserved : goal.loop-id-preserved
loop-id-preserved c =
    naming_goes_on _ _ _ _ _ _
    (subst (λ l. IsNaming c.args.self.now c.args.ids.now l c.loop-id.names) (drop_more c.args.ids.now c.loop-id.id-index _ c.loop-id-test.true)
    c.loop-id.invariant)
    c.in_ok-unite_head.ensures

pub returns : goal.returns
returns c = naming_ends _ _ _ _ (drop_all c.loop-id.id-index c.args.ids.now (omega (arith, c.loop-id-test.false))) c.loop-id.invariant
