-- A plan has at most one reply and one price; and what is asked is answered by induction on the questions.
use Rattle.std.proofs.Common.{◌≡◌, ℕ, suc, refl, sym, ap, subst, arith, Bool, List}
use Rattle.lp_spec.specs.Trees.{Tree}
use Rattle.lp_spec.specs.Modules.{Declaration}
use Rattle.lp_spec.specs.Check.{Question, Reply, Found, No, Plan, Say, Ask, plan, Ends, said, refused, asked}

found_tree : Tree → Reply → Tree
found_tree d (Found t) = t
found_tree d No = d

pub Found-injective : {t u : Tree} → Found t ≡ Found u → t ≡ u
Found-injective {t = t} e = cc

pub Found-No : {t : Tree} → Found t ≡ No → ⊥
Found-No e = cc

module _ (m : List Declaration) (r : Bool) where
  -- there is one reply, and one price
  pub one_reply : {p : Plan} {a b : Reply} {n k : ℕ} → Ends m r p a n → Ends m r p b k → (a ≡ b) × (n ≡ k)
  one_reply said said = (refl, refl)
  one_reply (refused h) (refused g) = let e = one_reply h g in (refl, ap suc e.1)
  one_reply (refused h) (asked g k) = absurd (Found-No (sym (one_reply h g).0))
  one_reply (asked h k) (refused g) = absurd (Found-No (one_reply h g).0)
  one_reply (asked {rest = rest} {reply = a} {k = n} h k) (asked {reply = b} {k = l} g j) =
      let e = one_reply h g in
      let same = subst (λ t. Ends m r (rest t) a n) (Found-injective e.0) k in
      let o = one_reply same j in
      (o.0, omega (arith, e.1, o.1))

-- a plan finds the tree, where what each of its questions finds has the property
pub data Backed (P : Question → Tree → Type 0) : Plan → Tree → Type 0 where
  says : {t : Tree} → Backed P (Say (Found t)) t
  asks : {q : Question} {rest : Tree → Plan} {t u : Tree} → P q t → Backed P (rest t) u → Backed P (Ask q rest) u

module _ (m : List Declaration) (r : Bool) (P : Question → Tree → Type 0) (each : (q : Question) (t : Tree) → Backed P (plan m r q) t → P q t) where
  -- induction over questions: where each question has the property if those of its plan do, every question has it
  pub backed : {p : Plan} {reply : Reply} {n : ℕ} (t : Tree) → Ends m r p reply n → reply ≡ Found t → Backed P p t
  backed t (said {reply = a}) e = subst (λ w. Backed P (Say w) t) (sym e) says
  backed t (refused h) e = absurd (cc)
  backed t (asked {t = u} h k) e = asks (each _ u (backed u h refl)) (backed t k e)

  pub by_questions : (q : Question) (t : Tree) (n : ℕ) → Ends m r (plan m r q) (Found t) n → P q t
  by_questions q t n h = each q t (backed t h refl)
