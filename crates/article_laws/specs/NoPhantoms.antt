-- A refusal that is written down but never comes: a term on the stack always has a type.
use Rattle.std.proofs.Common.{◌≡◌, List, true, Option, None, Some, Result, Err}
use Rattle.std.specs.Prelude.{is_some}
use Rattle.std.specs.Option.{ok_or}
use Rattle.hol_spec.specs.Types.{HolType}
use Rattle.hol_spec.specs.Terms.{Term, type_of}
use Rattle.common.specs.declared.faults.Kind.{Kind}
use Rattle.common.specs.declared.faults.Kind.TheVariants.{TypeMismatch}
use Rattle.hol_spec.specs.Proofs.{Made}
use Rattle.article_spec.specs.Conditions.{typed}
use Rattle.article_laws.specs.Soundness.{IsTermObject}

pub typed-never-refuses : (m : List Made) (t : Term) (k : Kind) → IsTermObject m t → typed t ≡ Err k → ⊥
typed-never-refuses m t k h e = go (type_of t) h.typed e
  where
    go : (o : Option HolType) → is_some o ≡ true → ◌≡◌ {A = Result HolType Kind} (ok_or o TypeMismatch) (Err k) → ⊥
    go None s e = absurd (cc)
    go (Some a) s e = absurd (cc)
