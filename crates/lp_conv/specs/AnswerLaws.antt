-- Conversion has one reply and one price, whether or not a check rechecks sorts; and what it finds convertible is.
use Rattle.std.proofs.Common.{ℕ, Bool, true, false, List, Option, Some, None}
use Rattle.std.specs.Prelude.{if◌then◌else◌}
use Rattle.lp_spec.specs.Trees.{Tree, App, Lam, Pi, tree_eq}
use Rattle.lp_spec.specs.Modules.{Declaration}
use Rattle.lp_spec.specs.Conversion.{Conv}
use Rattle.lp_spec.specs.HeadSteps.{head_step}
use Rattle.lp_spec.specs.Check.{Convert, Reply, Found, Plan, Say, Ask, convert, convert_by, convert_parts, Ends, said, refused, asked}
use Rattle.lp_check_laws.specs.ConvertLaws.{convert-sound}
use Rattle.lp_conv.specs.Answers.{converting}

-- the plan asks of conversions alone
data Converts : Plan → Type 0 where
  says : {reply : Reply} → Converts (Say reply)
  asks : {E F : Tree} {rest : Tree → Plan} → ((t : Tree) → Converts (rest t)) → Converts (Ask (Convert E F) rest)

convert_parts-Converts : (E F : Tree) → Converts (convert_parts E F)
convert_parts-Converts (App f x) (App g y) = asks (λ t. asks (λ u. says))
convert_parts-Converts (Lam a b) (Lam c d) = asks (λ t. asks (λ u. says))
convert_parts-Converts (Pi a b) (Pi c d) = asks (λ t. asks (λ u. says))
convert_parts-Converts _ _ = says

convert_by-Converts : (E F : Tree) (e f : Option Tree) → Converts (convert_by E F e f)
convert_by-Converts E F (Some H) f = asks (λ t. says)
convert_by-Converts E F None (Some H) = asks (λ t. says)
convert_by-Converts E F None None = convert_parts-Converts E F

convert-Converts : (m : List Declaration) (E F : Tree) → Converts (convert m E F)
convert-Converts m E F = go (tree_eq E F)
  where
    go : (b : Bool) → Converts (if b then Say (Found E) else convert_by E F (head_step m E) (head_step m F))
    go true = says
    go false = convert_by-Converts E F (head_step m E) (head_step m F)

module _ (m : List Declaration) (r s : Bool) where
  Ends-Converts : {p : Plan} {reply : Reply} {n : ℕ} → Converts p → Ends m r p reply n → Ends m s p reply n
  Ends-Converts c said = said
  Ends-Converts (asks {E = E} {F = F} k) (refused h) = refused (Ends-Converts (convert-Converts m E F) h)
  Ends-Converts (asks {E = E} {F = F} k) (asked {t = t} h g) = asked (Ends-Converts (convert-Converts m E F) h) (Ends-Converts (k t) g)

  -- a check without rechecks of sorts converts as one with them
  pub converting-Ends : (E F : Tree) (reply : Reply) (n : ℕ) → Ends m r (converting E F) reply n → Ends m s (converting E F) reply n
  converting-Ends E F reply n h = Ends-Converts (asks (λ t. says)) h

-- trees that are found convertible are
pub converting-Conv : (m : List Declaration) (r : Bool) (E F t : Tree) (n : ℕ) → Ends m r (converting E F) (Found t) n → Conv m E F
converting-Conv m r E F t n (asked {t = u} {n = k} h said) = convert-sound m r E F u k h
