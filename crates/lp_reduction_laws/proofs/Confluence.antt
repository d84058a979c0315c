-- Reduction is confluent: each of two chains is one of parallel steps, which meet by their complete developments.
use Rattle.std.proofs.Common.{List}
use Rattle.lp_spec.specs.Trees.{Tree}
use Rattle.lp_spec.specs.Modules.{Declaration}
use Rattle.lp_spec.specs.Conversion.{Steps, done, next, Conv, same, forth, back}
use Rattle.lp_typing_laws.specs.ConversionLaws.{IsClosed, Steps-trans}
use Rattle.lp_spec.specs.CalculusLaws.{Confluence}
use Rattle.lp_typing_laws.specs.WellTypedLaws.{WellTyped-IsClosed}
use Rattle.lp_reduction_laws.proofs.ParallelSteps.{Parallel, Step-Parallel, Parallel-Steps}
use Rattle.lp_reduction_laws.proofs.Developments.{Parallel-developed}

-- a chain of parallel steps
data Parallels (m : List Declaration) : Tree → Tree → Type 0 where
  p_done : {t : Tree} → Parallels m t t
  p_next : {t u v : Tree} → Parallel m t u → Parallels m u v → Parallels m t v

-- a chain of parallel steps is a chain of steps
Parallels-Steps : {m : List Declaration} {t u : Tree} → Parallels m t u → Steps m t u
Parallels-Steps p_done = done
Parallels-Steps (p_next h r) = Steps-trans (Parallel-Steps h) (Parallels-Steps r)

-- a chain of steps is a chain of parallel steps
Steps-Parallels : {m : List Declaration} {t u : Tree} → Steps m t u → Parallels m t u
Steps-Parallels done = p_done
Steps-Parallels (next h r) = p_next (Step-Parallel _ h) (Steps-Parallels r)

module _ (m : List Declaration) (closed : IsClosed m) where
  -- a parallel step and a chain of them meet
  strip : {t u v : Tree} → Parallel m t u → Parallels m t v → (w : Tree) × Parallels m u w × Parallel m v w
  strip {u = u} h p_done = (u, p_done, h)
  strip {t = t} h (p_next k r) =
      let s = strip (Parallel-developed m closed k) r in
      (s.0, p_next (Parallel-developed m closed h) s.1, s.2)

  -- two chains of parallel steps meet
  Parallels-meet : {t u v : Tree} → Parallels m t u → Parallels m t v → (w : Tree) × Parallels m u w × Parallels m v w
  Parallels-meet {v = v} p_done k = (v, k, p_done)
  Parallels-meet (p_next h r) k =
      let s = strip h k in
      let j = Parallels-meet r s.1 in
      (j.0, j.1, p_next s.2 j.2)

  -- two chains of steps meet
  pub Steps-meet : {t u v : Tree} → Steps m t u → Steps m t v → (w : Tree) × Steps m u w × Steps m v w
  Steps-meet h k =
      let j = Parallels-meet (Steps-Parallels h) (Steps-Parallels k) in
      (j.0, Parallels-Steps j.1, Parallels-Steps j.2)

  -- convertible trees go to one
  pub Conv-meet : {t u : Tree} → Conv m t u → (w : Tree) × Steps m t w × Steps m u w
  Conv-meet {t = t} same = (t, done, done)
  Conv-meet (forth h c) = let j = Conv-meet c in (j.0, next h j.1, j.2)
  Conv-meet (back h c) =
      let j = Conv-meet c in
      let k = Steps-meet (next h done) j.1 in
      (k.0, k.1, Steps-trans j.2 k.2)

-- the law of confluence holds
pub confluent : Confluence
confluent m typed t u v h k = Steps-meet m (WellTyped-IsClosed m typed) h k
