-- What stays where a module's table has grown.
use Rattle.std.proofs.Common.{◌≡◌, refl, sym, ap, ◌∙◌, subst, arith, List, [], ◌∷◌}
use Rattle.lp_spec.specs.Trees.{Tree}
use Rattle.lp_term.specs.declared.LpId.{LpId}
use Rattle.lp_term.specs.Tables.{trees_at, Stays, Keeps, AreKnown}
use Rattle.lp_term.specs.TableLaws.{tree_at-Stays, Keeps-refl, Keeps-trans}
use Rattle.holide_sig.specs.declared.module.Module.{Module}
use Rattle.holide_sig.specs.Modules.{declarations_of, IsHeld}
use Rattle.holide_sig.specs.ModuleLaws.{declarations_of-Keeps, IsHeld-Keeps}
use Rattle.lp_conv.specs.Growth.{Grows}
use Rattle.std.proofs.Math.Path.{ap₂}

pub Grows-refl : (m : Module) → Grows m m
Grows-refl m = record { keeps = Keeps-refl m.table; decls = refl }

pub Grows-trans : {a b c : Module} → Grows a b → Grows b c → Grows a c
Grows-trans g h = record { keeps = Keeps-trans g.keeps h.keeps; decls = h.decls ∙ g.decls }

-- the declarations stay
pub declarations_of-Grows : (old new : Module) → Grows old new → IsHeld old → declarations_of new ≡ declarations_of old
declarations_of-Grows old new g h = ap (λ d. declarations_of (record { table = new.table; decls = d })) g.decls ∙ declarations_of-Keeps old new.table g.keeps h

-- a module holds what it should when its table has grown
pub IsHeld-Grows : (old new : Module) → Grows old new → IsHeld old → IsHeld new
IsHeld-Grows old new g h = subst (λ d. IsHeld (record { table = new.table; decls = d })) (sym g.decls) (IsHeld-Keeps old new.table g.keeps h)

-- the trees of numbers stay
pub trees_at-Stays : {ts us : List Tree} → Stays ts us → (ids : List LpId) → AreKnown ts ids → trees_at us ids ≡ trees_at ts ids
trees_at-Stays k [] h = refl
trees_at-Stays k (id ∷ ids) h = ap₂ (λ t l. t ∷ l) (sym (tree_at-Stays k id.0 h.0)) (trees_at-Stays k ids h.1)

-- numbers of a table are of one that has grown
pub AreKnown-Keeps : {ts us : List Tree} → Keeps ts us → (ids : List LpId) → AreKnown ts ids → AreKnown us ids
AreKnown-Keeps k [] h = tt
AreKnown-Keeps k (id ∷ ids) h = (omega (arith, k.longer, h.0), AreKnown-Keeps k ids h.1)
