-- Plans one after another, and what is left of a plan after some of its steps.
use Rattle.std.proofs.Common.{◌≡◌, refl, sym, subst, ℕ, suc, ◌+◌, ◌≤◌, ◌<◌, arith, Bool, List}
use Rattle.lp_spec.specs.Trees.{Tree}
use Rattle.lp_spec.specs.Modules.{Declaration}
use Rattle.lp_spec.specs.Check.{Question, Reply, Found, No, Plan, Say, Ask, plan, Ends, said, refused, asked}
use Rattle.lp_check_laws.specs.CheckLaws.{one_reply, Found-injective, Found-No}

-- the plan, and what goes on with the tree that it finds
abbrev pub and_then : Plan → (Tree → Plan) → Plan
and_then (Say (Found t)) rest = rest t
and_then (Say No) rest = Say No
and_then (Ask q more) rest = Ask q (λ t. and_then (more t) rest)

module _ (m : List Declaration) (r : Bool) where
  -- where the second plan ends, so does the first, after so many steps more at least; and the other way round
  pub record Leaves (p : Plan) (spent : ℕ) (q : Plan) : Type 0 where
    pub up : (reply : Reply) (n : ℕ) → Ends m r q reply n → (k : ℕ) × Ends m r p reply k × spent + n ≤ k
    pub down : (reply : Reply) (n : ℕ) → Ends m r p reply n → (k : ℕ) × Ends m r q reply k × spent + k ≤ n

  pub leaves_all : (p : Plan) → Leaves p 0 p
  leaves_all p = record { up = λ reply n h. (n, h, omega arith); down = λ reply n h. (n, h, omega arith) }

  pub leaves_equal : {p q : Plan} → p ≡ q → Leaves p 0 q
  leaves_equal {p = p} e = subst (Leaves p 0) e (leaves_all p)

  pub leaves_then : {p q o : Plan} {n k : ℕ} → Leaves p n q → Leaves q k o → Leaves p (n + k) o
  leaves_then a b = record {
    up = λ reply n h. let c = b.up reply n h in let d = a.up reply c.0 c.1 in (d.0, d.1, omega (arith, c.2, d.2));
    down = λ reply n h. let c = a.down reply n h in let d = b.down reply c.0 c.1 in (d.0, d.1, omega (arith, c.2, d.2));
  }

  -- fewer steps may have been spent
  pub leaves_fewer : {p q : Plan} {n k : ℕ} → k ≤ n → Leaves p n q → Leaves p k q
  leaves_fewer le a = record {
    up = λ reply n h. let c = a.up reply n h in (c.0, c.1, omega (arith, c.2, le));
    down = λ reply n h. let c = a.down reply n h in (c.0, c.1, omega (arith, c.2, le));
  }

  -- how a plan ends with what goes on with it
  pub data Splits (p : Plan) (rest : Tree → Plan) : Reply → ℕ → Type 0 where
    in_no : {n : ℕ} → Ends m r p No n → Splits p rest No n
    in_found : {t : Tree} {reply : Reply} {n k : ℕ} → Ends m r p (Found t) n → Ends m r (rest t) reply k → Splits p rest reply (n + k)

  split_after : {q : Question} {more : Tree → Plan} {rest : Tree → Plan} {t : Tree} {reply : Reply} {n k : ℕ} → Ends m r (plan m r q) (Found t) n
      → Splits (more t) rest reply k → Splits (Ask q more) rest reply (suc (n + k))
  split_after h (in_no e) = in_no (asked h e)
  split_after {q = q} {more = more} {rest = rest} {reply = reply} {n = n} h (in_found {n = a} {k = b} e f) =
      let is : suc (n + a) + b ≡ suc (n + (a + b)) = omega arith in subst (Splits (Ask q more) rest reply) is (in_found (asked h e) f)

  pub split : (p : Plan) (rest : Tree → Plan) {reply : Reply} {n : ℕ} → Ends m r (and_then p rest) reply n → Splits p rest reply n
  split (Say (Found t)) rest {reply = reply} {n = n} h = let is : 0 + n ≡ n = omega arith in subst (Splits (Say (Found t)) rest reply) is (in_found said h)
  split (Say No) rest said = in_no said
  split (Ask o more) rest (refused h) = in_no (refused h)
  split (Ask o more) rest (asked {t = t} h g) = split_after h (split (more t) rest g)

  pub then_found : {p : Plan} (rest : Tree → Plan) {t : Tree} {f reply : Reply} {n k : ℕ} → Ends m r p f n → f ≡ Found t → Ends m r (rest t) reply k
      → Ends m r (and_then p rest) reply (n + k)
  then_found rest {reply = reply} {k = k} (said {reply = Found u}) e h =
      let is : k ≡ 0 + k = omega arith in subst (λ n. Ends m r (rest u) reply n) is (subst (λ w. Ends m r (rest w) reply k) (sym (Found-injective e)) h)
  then_found rest (said {reply = No}) e h = absurd (cc)
  then_found rest (refused g) e h = absurd (cc)
  then_found rest {reply = reply} {k = k} (asked {q = q} {rest = more} {n = a} {k = b} g l) e h =
      let is : suc (a + (b + k)) ≡ suc (a + b) + k =
      omega arith in subst (Ends m r (Ask q (λ t. and_then (more t) rest)) reply) is (asked g (then_found rest l e h))

  pub then_no : {p : Plan} (rest : Tree → Plan) {f : Reply} {n : ℕ} → Ends m r p f n → f ≡ No → Ends m r (and_then p rest) No n
  then_no rest (said {reply = Found u}) e = absurd (cc)
  then_no rest (said {reply = No}) e = said
  then_no rest (refused g) e = refused g
  then_no rest (asked g l) e = asked g (then_no rest l e)

  -- a question is its plan, at one step more
  pub leaves_ask : (q : Question) (rest : Tree → Plan) → Leaves (Ask q rest) 1 (and_then (plan m r q) rest)
  leaves_ask q rest = record { up = λ reply n h. up reply (split (plan m r q) rest h); down = λ reply n h. down reply h }
    where
      up : (reply : Reply) {n : ℕ} → Splits (plan m r q) rest reply n → (k : ℕ) × Ends m r (Ask q rest) reply k × 1 + n ≤ k
      up reply (in_no h) = (_, refused h, omega arith)
      up reply (in_found h g) = (_, asked h g, omega arith)

      down : (reply : Reply) {n : ℕ} → Ends m r (Ask q rest) reply n → (k : ℕ) × Ends m r (and_then (plan m r q) rest) reply k × 1 + k ≤ n
      down reply (refused h) = (_, then_no rest h refl, omega arith)
      down reply (asked h g) = (_, then_found rest h refl g, omega arith)

  -- a plan whose end is known goes on with what it found, and ends where it found nothing
  pub leaves_found : (p : Plan) (rest : Tree → Plan) (t : Tree) (steps spent : ℕ) → Ends m r p (Found t) steps → spent ≤ steps
      → Leaves (and_then p rest) spent (rest t)
  leaves_found p rest t steps spent h le = record {
    up = λ reply n g. (steps + n, then_found rest h refl g, omega (arith, le));
    down = λ reply n g. down reply (split p rest g);
  }
    where
      down : (reply : Reply) {n : ℕ} → Splits p rest reply n → (k : ℕ) × Ends m r (rest t) reply k × spent + k ≤ n
      down reply (in_no g) = absurd (Found-No (one_reply m r h g).0)
      down reply (in_found {k = k} g l) =
          let o = one_reply m r h g in
          (k, subst (λ u. Ends m r (rest u) reply k) (sym (Found-injective o.0)) l, omega (arith, o.1, le))

  pub leaves_no : (p : Plan) (rest : Tree → Plan) (steps spent : ℕ) → Ends m r p No steps → spent ≤ steps → Leaves (and_then p rest) spent (Say No)
  leaves_no p rest steps spent h le = record { up = up; down = λ reply n g. down reply (split p rest g) }
    where
      up : (reply : Reply) (n : ℕ) → Ends m r (Say No) reply n → (k : ℕ) × Ends m r (and_then p rest) reply k × spent + n ≤ k
      up reply n said = (steps, then_no rest h refl, omega (arith, le))

      down : (reply : Reply) {n : ℕ} → Splits p rest reply n → (k : ℕ) × Ends m r (Say No) reply k × spent + k ≤ n
      down reply (in_no g) = (0, said, omega (arith, (one_reply m r h g).1, le))
      down reply (in_found g l) = absurd (Found-No (sym (one_reply m r h g).0))

  -- where a plan doesn't end within the budget, it doesn't with what goes on with it
  pub over_then : (p : Plan) (rest : Tree → Plan) (left : ℕ) → ((reply : Reply) (n : ℕ) → Ends m r p reply n → left < n) → (reply : Reply) (n : ℕ)
      → Ends m r (and_then p rest) reply n → left < n
  over_then p rest left over reply n h = go (split p rest h)
    where
      go : {o : Reply} {n : ℕ} → Splits p rest o n → left < n
      go (in_no g) = over No _ g
      go (in_found {n = a} g l) = omega (arith, over _ a g)

  -- and where what is left of a plan doesn't end within what is left of the budget, the plan doesn't within the budget
  pub over_leaves : {p q : Plan} {spent left all : ℕ} → Leaves p spent q → all ≤ spent + left → ((reply : Reply) (n : ℕ) → Ends m r q reply n → left < n)
      → (reply : Reply) (n : ℕ) → Ends m r p reply n → all < n
  over_leaves a le over reply n h = let c = a.down reply n h in omega (arith, c.2, over reply c.0 c.1, le)
