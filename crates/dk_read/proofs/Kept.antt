-- What a table keeps over several calls.
use Rattle.std.proofs.Common.{◌≡◌, List, Result, Ok, Err, OnOk, sym, subst}
use Rattle.lp_spec.specs.Trees.{Tree}
use Rattle.lp_term.specs.Tables.{Keeps}
use Rattle.lp_term.specs.TableLaws.{Keeps-refl, Keeps-trans}

-- a table that is the old one keeps it
pub kept_same : {old new : List Tree} → new ≡ old → Keeps old new
kept_same {old = old} e = subst (Keeps old) (sym e) (Keeps-refl old)

-- what is kept by one call, and then by one that went well
pub kept_on : {T E : Type 0} (r : Result T E) {a b : List Tree} (c : List Tree) → Keeps a b → OnOk r (Keeps b c) → OnOk r (Keeps a c)
kept_on (Ok x) c k h = Keeps-trans k h
kept_on (Err e) c k h = tt
