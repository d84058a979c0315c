-- Two drafts with the same commands, whose keys stand for the same but for the numbers of steps: what is written next keeps them so.
use Rattle.std.proofs.Common.{◌≡◌, ℕ, zero, suc, ◌+◌, ◌<◌, ◌==◌, Bool, true, false, cond, List, [], ◌∷◌, ◌++◌, map, length, Option, None, Some, refl, sym, ap, ap₂, subst, ◌∙◌, arith, pos}
use Rattle.std.specs.Prelude.{unwrap_or, nat_lt}
use Rattle.std.specs.List.{AllByRecursion, position_from}
use Rattle.std.proofs.lemmas.List.{map-append, length-map}
use Rattle.std.proofs.lemmas.Bool.Decides.{nat_tests}
use Rattle.hol_laws.specs.Members.{All-append}
use Rattle.hol_spec.specs.Types.{HolType, HolTypes, count}
use Rattle.hol_spec.specs.Terms.{Term, Variable}
use Rattle.hol_spec.specs.TermBinding.{loose}
use Rattle.hol_spec.specs.Rules.{Parameters}
use Rattle.article_spec.specs.declared.commands.Item.{Item}
use Rattle.article_spec.specs.declared.commands.Item.TheVariants as item
use Rattle.article_spec.specs.declared.commands.Word.TheVariants as word
use Rattle.article_write_spec.specs.Drafts.{Kept, kept_eq, Draft, key_of, say, say_name, say_word, keep, refer, once_at, once, conses, write_each, write_list, write_pair}
use Rattle.article_write_spec.specs.WrittenTypes.{write_type, write_types, write_variable}
use Rattle.article_write_spec.specs.WrittenTerms.{binder_at, next_binder, once_closed, shared, write_under, write_term}
use Rattle.article_write_spec.specs.WrittenSteps.{write_premise, keep_theorem, write_given}
use Rattle.article_write_laws.specs.Flags as flags

module _ (flag : ℕ → Bool) where
  abbrev pub other : Kept → Kept
  other (Kept.type a) = Kept.type a
  other (Kept.term t) = Kept.term t
  other (Kept.theorem i) = Kept.theorem (flags.count flag i)

  abbrev pub IsFlagged : Kept → Type 0
  IsFlagged (Kept.type a) = Unit {0}
  IsFlagged (Kept.term t) = Unit {0}
  IsFlagged (Kept.theorem i) = flag i ≡ true

  pub record Same (d e : Draft) : Type 0 where
    pub commands : e.commands ≡ d.commands
    pub kept : e.kept ≡ map other d.kept
    pub flagged : AllByRecursion IsFlagged d.kept

  pub same-said : {d e : Draft} (i : Item) → Same d e → Same (say i d) (say i e)
  same-said i s = record { commands = ap (λ l. l ++ i ∷ []) s.commands; kept = s.kept; flagged = s.flagged }

  pub same-kept : {d e : Draft} (x : Kept) → IsFlagged x → Same d e → Same (keep x d) (keep (other x) e)
  same-kept {d = d} {e = e} x h s = record {
    commands = ap₂ (λ l k. (l ++ item.Number (pos k) ∷ []) ++ item.Word word.Def ∷ []) s.commands (ap length s.kept ∙ length-map d.kept other);
    kept = ap (λ l. l ++ other x ∷ []) s.kept ∙ sym (map-append other d.kept (x ∷ []));
    flagged = All-append IsFlagged d.kept (x ∷ []) s.flagged (h, tt {0});
  }

  pub same-referred : {d e : Draft} (k : ℕ) → Same d e → Same (refer k d) (refer k e)
  same-referred k s = same-said (item.Word word.Ref) (same-said (item.Number (pos k)) s)

  -- the place of what is the same
  same-place : (x y : Kept) (start : ℕ) (kept : List Kept) → AllByRecursion (λ z. kept_eq y (other z) ≡ kept_eq x z) kept
      → position_from (kept_eq y) start (map other kept) ≡ position_from (kept_eq x) start kept
  same-place x y start [] h = refl
  same-place x y start (z ∷ kept) h = ap₂ (λ b o. cond b (Some start) o) h.0 (same-place x y (start + 1) kept h.1)

  type-test : (a : HolType) (kept : List Kept) → AllByRecursion (λ z. kept_eq (Kept.type a) (other z) ≡ kept_eq (Kept.type a) z) kept
  type-test a [] = tt
  type-test a (Kept.type b ∷ kept) = (refl, type-test a kept)
  type-test a (Kept.term t ∷ kept) = (refl, type-test a kept)
  type-test a (Kept.theorem i ∷ kept) = (refl, type-test a kept)

  term-test : (t : Term) (kept : List Kept) → AllByRecursion (λ z. kept_eq (Kept.term t) (other z) ≡ kept_eq (Kept.term t) z) kept
  term-test t [] = tt
  term-test t (Kept.type b ∷ kept) = (refl, term-test t kept)
  term-test t (Kept.term u ∷ kept) = (refl, term-test t kept)
  term-test t (Kept.theorem i ∷ kept) = (refl, term-test t kept)

  same-once_at : {d e : Draft} (o p : Option ℕ) (x : Kept) (build : Draft → Draft) → p ≡ o → IsFlagged x → Same d e → Same (build d) (build e)
      → Same (once_at o x build d) (once_at p (other x) build e)
  same-once_at {d = d} {e = e} None p x build h f s b = subst (λ o. Same (once_at None x build d) (once_at o (other x) build e)) (sym h) (same-kept x f b)
  same-once_at {d = d} {e = e} (Some k) p x build h f s b =
      subst (λ o. Same (once_at (Some k) x build d) (once_at o (other x) build e)) (sym h) (same-referred k s)

  same-type : {d e : Draft} (a : HolType) (build : Draft → Draft) → Same d e → Same (build d) (build e)
      → Same (once (Kept.type a) build d) (once (Kept.type a) build e)
  same-type {d = d} {e = e} a build s b =
      same-once_at (key_of (Kept.type a) d) (key_of (Kept.type a) e) (Kept.type a) build
      (ap (position_from (kept_eq (Kept.type a)) 0) s.kept ∙ same-place (Kept.type a) (Kept.type a) 0 d.kept (type-test a d.kept)) tt s b

  same-term : {d e : Draft} (t : Term) (build : Draft → Draft) → Same d e → Same (build d) (build e)
      → Same (once (Kept.term t) build d) (once (Kept.term t) build e)
  same-term {d = d} {e = e} t build s b =
      same-once_at (key_of (Kept.term t) d) (key_of (Kept.term t) e) (Kept.term t) build
      (ap (position_from (kept_eq (Kept.term t)) 0) s.kept ∙ same-place (Kept.term t) (Kept.term t) 0 d.kept (term-test t d.kept)) tt s b

  -- what is written of the same
  abbrev pub Alike : (Draft → Draft) → (Draft → Draft) → Type 0
  Alike f g = (d e : Draft) → Same d e → Same (f d) (g e)

  same-conses : (k : ℕ) → Alike (conses k) (conses k)
  same-conses zero d e s = s
  same-conses (suc k) d e s = same-conses k (say_word word.Cons d) (say_word word.Cons e) (same-said (item.Word word.Cons) s)

  same-each : {A : Type 0} (write : A → Draft → Draft) → ((x : A) → Alike (write x) (write x)) → (xs : List A)
      → Alike (write_each write xs) (write_each write xs)
  same-each write f [] d e s = s
  same-each write f (x ∷ xs) d e s = same-each write f xs (write x d) (write x e) (f x d e s)

  same-list : {A : Type 0} (write : A → Draft → Draft) → ((x : A) → Alike (write x) (write x)) → (xs : List A)
      → Alike (write_list write xs) (write_list write xs)
  same-list write f xs d e s = same-conses (length xs) (say_word word.Nil (write_each write xs d)) (say_word word.Nil (write_each write xs e))
      (same-said (item.Word word.Nil) (same-each write f xs d e s))

  same-pair : (one two : Draft → Draft) → Alike one one → Alike two two → Alike (write_pair one two) (write_pair one two)
  same-pair one two f g d e s = same-conses 2 (say_word word.Nil (two (one d))) (say_word word.Nil (two (one e)))
      (same-said (item.Word word.Nil) (g (one d) (one e) (f d e s)))

  mutual
    same-write_type : (t : HolType) → Alike (write_type t) (write_type t)
    same-write_type (HolType.variable n) d e s = same-type (HolType.variable n) (λ z. say_word word.VarType (say_name n z)) s
        (same-said (item.Word word.VarType) (same-said (item.Name n) s))
    same-write_type (HolType.operator n ts) d e s =
        same-type (HolType.operator n ts)
        (λ z. say_word word.OpType (conses (count ts) (say_word word.Nil (write_types ts (say_word word.TypeOp (say_name n z)))))) s
        (same-said (item.Word word.OpType)
        (same-conses (count ts) (say_word word.Nil (write_types ts (say_word word.TypeOp (say_name n d))))
        (say_word word.Nil (write_types ts (say_word word.TypeOp (say_name n e))))
        (same-said (item.Word word.Nil)
        (same-write_types ts (say_word word.TypeOp (say_name n d)) (say_word word.TypeOp (say_name n e))
        (same-said (item.Word word.TypeOp) (same-said (item.Name n) s))))))

    same-write_types : (ts : HolTypes) → Alike (write_types ts) (write_types ts)
    same-write_types HolTypes.none d e s = s
    same-write_types (HolTypes.more t ts) d e s = same-write_types ts (write_type t d) (write_type t e) (same-write_type t d e s)

  same-name : (n : _) → Alike (say_name n) (say_name n)
  same-name n d e s = same-said (item.Name n) s

  same-variable : (v : Variable) → Alike (write_variable v) (write_variable v)
  same-variable v d e s = same-said (item.Word word.Var) (same-write_type v.1 (say_name v.0 d) (say_name v.0 e) (same-said (item.Name v.0) s))

  same-shared : {d e : Draft} (t : Term) (build : Draft → Draft) → Same d e → Same (build d) (build e) → Same (shared t build d) (shared t build e)
  same-shared {d = d} {e = e} t build s b = go (loose t == 0)
    where
      go : (x : Bool) → Same (once_closed x t build d) (once_closed x t build e)
      go true = same-term t build s b
      go false = b

  same-under : (q : ℕ) (t : Term) (vs : List Variable) → Alike (write_under q vs t) (write_under q vs t)
  same-under q (Term.free n a) vs d e s = same-shared (Term.free n a) (λ z. say_word word.VarTerm (write_variable (n, a) z)) s
      (same-said (item.Word word.VarTerm) (same-variable (n, a) d e s))
  same-under q (Term.bound k) vs d e s = same-said (item.Word word.VarTerm) (same-variable (binder_at vs k) d e s)
  same-under q (Term.constant n a) vs d e s =
      same-shared (Term.constant n a) (λ z. say_word word.ConstTerm (write_type a (say_word word.Const (say_name n z)))) s
      (same-said (item.Word word.ConstTerm)
      (same-write_type a (say_word word.Const (say_name n d)) (say_word word.Const (say_name n e))
      (same-said (item.Word word.Const) (same-said (item.Name n) s))))
  same-under q (Term.app f x) vs d e s =
      same-shared (Term.app f x) (λ z. say_word word.AppTerm (write_under q vs x (write_under q vs f z))) s
      (same-said (item.Word word.AppTerm) (same-under q x vs (write_under q vs f d) (write_under q vs f e) (same-under q f vs d e s)))
  same-under q (Term.lam a b) vs d e s =
      let v : Variable = next_binder q vs a in
      same-shared (Term.lam a b) (λ z. say_word word.AbsTerm (write_under q (v ∷ vs) b (write_variable v z))) s
      (same-said (item.Word word.AbsTerm) (same-under q b (v ∷ vs) (write_variable v d) (write_variable v e) (same-variable v d e s)))

  same-write_term : (q : ℕ) (t : Term) → Alike (write_term q t) (write_term q t)
  same-write_term q t d e s = same-under q t [] d e s

  pub same-given : (q : ℕ) (g : Parameters) → Alike (write_given q g) (write_given q g)
  same-given q Parameters.nothing d e s = s
  same-given q (Parameters.term t) d e s = same-write_term q t d e s
  same-given q (Parameters.variable v) d e s = same-variable v d e s
  same-given q (Parameters.substitution types terms) d e s =
      same-pair (write_list (λ p. write_pair (say_name p.0) (write_type p.1)) types)
      (write_list (λ p. write_pair (write_variable p.0) (write_term q p.1)) terms)
      (same-list (λ p. write_pair (say_name p.0) (write_type p.1)) (λ p. same-pair (say_name p.0) (write_type p.1) (same-name p.0) (same-write_type p.1)) types)
      (same-list (λ p. write_pair (write_variable p.0) (write_term q p.1))
      (λ p. same-pair (write_variable p.0) (write_term q p.1) (same-variable p.0) (same-write_term q p.1)) terms) d e s
  same-given q (Parameters.sequent z) d e s =
      same-write_term q z.conclusion (write_list (write_term q) z.hypotheses d) (write_list (write_term q) z.hypotheses e)
      (same-list (write_term q) (same-write_term q) z.hypotheses d e s)
  same-given q (Parameters.constant n t) d e s = same-write_term q t (say_name n d) (say_name n e) (same-name n d e s)
  same-given q (Parameters.constants pairs) d e s =
      same-list (λ p. write_pair (say_name p.0) (write_variable p.1)) (λ p. same-pair (say_name p.0) (write_variable p.1) (same-name p.0) (same-variable p.1))
      pairs d e s
  same-given q (Parameters.type_operator names version) d e s =
      same-list say_name same-name names.variables _ _
      (same-said (item.Name names.representation) (same-said (item.Name names.abstraction) (same-said (item.Name names.operator) s)))

  -- PREMISES: flagged numbers have different counts
  count-mono : (i j : ℕ) → i < j → flag i ≡ true → flags.count flag i < flags.count flag j
  count-mono i zero low on = absurd (omega (arith, low))
  count-mono i (suc j) low on = go (flag j) refl (i == j) refl (count-mono i j)
    where
      step : (b : Bool) → flag j ≡ b → flags.count flag j ≡ flags.count flag j
          → flags.count flag (suc j) ≡ cond b (suc (flags.count flag j)) (flags.count flag j)
      step b e z = ap (λ c. cond c (suc (flags.count flag j)) (flags.count flag j)) e

      go : (b : Bool) → flag j ≡ b → (c : Bool) → (i == j) ≡ c → (i < j → flag i ≡ true → flags.count flag i < flags.count flag j)
          → flags.count flag i < flags.count flag (suc j)
      go true e true f h = let same : i ≡ j = grind (arith, nat_tests, f) in omega (arith, step true e refl, ap (flags.count flag) same)
      go true e false f h = let less : i < j = grind (arith, nat_tests, f, low) in omega (arith, step true e refl, h less on)
      go false e true f h = absurd (let same : i ≡ j = grind (arith, nat_tests, f) in let z = sym on ∙ ap flag same ∙ e in cc)
      go false e false f h = let less : i < j = grind (arith, nat_tests, f, low) in omega (arith, step false e refl, h less on)

  pub count-test : (i j : ℕ) → flag i ≡ true → flag j ≡ true → (flags.count flag i == flags.count flag j) ≡ (i == j)
  count-test i j on also = go (i == j) (nat_lt i j) refl refl
    where
      go : (b c : Bool) → (i == j) ≡ b → nat_lt i j ≡ c → (flags.count flag i == flags.count flag j) ≡ b
      go true c e f = let same : i ≡ j = grind (arith, nat_tests, e) in let z : flags.count flag i ≡ flags.count flag j =
          ap (flags.count flag) same in grind (arith, nat_tests, z)
      go false true e f = let less : i < j = grind (arith, nat_tests, f) in let z = count-mono i j less on in grind (arith, nat_tests, z)
      go false false e f = let more : j < i = grind (arith, nat_tests, e, f) in let z = count-mono j i more also in grind (arith, nat_tests, z)

  theorem-test : (i : ℕ) → flag i ≡ true → (kept : List Kept) → AllByRecursion IsFlagged kept
      → AllByRecursion (λ z. kept_eq (Kept.theorem (flags.count flag i)) (other z) ≡ kept_eq (Kept.theorem i) z) kept
  theorem-test i on [] h = tt
  theorem-test i on (Kept.type b ∷ kept) h = (refl, theorem-test i on kept h.1)
  theorem-test i on (Kept.term u ∷ kept) h = (refl, theorem-test i on kept h.1)
  theorem-test i on (Kept.theorem j ∷ kept) h = (count-test i j on h.0, theorem-test i on kept h.1)

  same-premise : (i : ℕ) → flag i ≡ true → Alike (write_premise i) (write_premise (flags.count flag i))
  same-premise i on d e s =
      let key : key_of (Kept.theorem (flags.count flag i)) e ≡ key_of (Kept.theorem i) d =
      ap (position_from (kept_eq (Kept.theorem (flags.count flag i))) 0) s.kept
      ∙ same-place (Kept.theorem i) (Kept.theorem (flags.count flag i)) 0 d.kept (theorem-test i on d.kept s.flagged) in
      subst (λ o. Same (write_premise i d) (refer (unwrap_or o 0) e)) (sym key) (same-referred (unwrap_or (key_of (Kept.theorem i) d) 0) s)

  pub same-premises : (is : List ℕ) → AllByRecursion (λ i. flag i ≡ true) is
      → Alike (write_each write_premise is) (write_each write_premise (map (flags.count flag) is))
  same-premises [] h d e s = s
  same-premises (i ∷ is) h d e s = same-premises is h.1 (write_premise i d) (write_premise (flags.count flag i) e) (same-premise i h.0 d e s)

  pub same-theorem : (i j : ℕ) → flag i ≡ true → flags.count flag i ≡ j → Alike (keep_theorem i) (keep_theorem j)
  same-theorem i j on is d e s = subst (λ k. Same (keep_theorem i d) (keep_theorem k e)) is (same-said (item.Word word.Pop) (same-kept (Kept.theorem i) on s))
