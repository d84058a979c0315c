-- All that is written can stand on lines, where the names that it holds can: the numbers are keys, fewer than there are commands.
use Rattle.std.proofs.Common.{◌≡◌, ◌≢◌, ℕ, zero, suc, ◌+◌, ◌*◌, ◌<◌, ◌≤◌, ◌^◌, ◌==◌, Bool, true, false, cond, List, [], ◌∷◌, ◌++◌, length, pos, Option, None, Some, refl, arith, length-append, decimal}
use Rattle.std.specs.Prelude.{unwrap_or}
use Rattle.std.specs.List.{AllByRecursion}
use Rattle.std.proofs.lemmas.Option.{slice_get_within}
use Rattle.hol_laws.specs.Members.{All-append, All-weaker}
use Rattle.hol_spec.specs.declared.Version.{Version}
use Rattle.hol_spec.specs.declared.Version.TheVariants.{Five, Six}
use Rattle.hol_spec.specs.Names.{Name}
use Rattle.hol_spec.specs.Types.{HolType, HolTypes, count}
use Rattle.hol_spec.specs.Terms.{Term, Variable}
use Rattle.hol_spec.specs.TermBinding.{loose}
use Rattle.hol_spec.specs.Rules.{Parameters}
use Rattle.hol_spec.specs.declared.StepKind.{StepKind}
use Rattle.hol_spec.specs.declared.StepKind.TheVariants.{Refl, Assume, EqMp, AbsThm, AppThm, DeductAntisym, BetaConv, Sym, Trans, ProveHyp, Subst, Axiom, Restate, DefineConst, DefineConstList, FirstLaw, SecondLaw}
use Rattle.article_spec.specs.declared.commands.Item.{Item}
use Rattle.article_spec.specs.declared.commands.Item.TheVariants as item
use Rattle.article_spec.specs.declared.commands.Word.{Word}
use Rattle.article_spec.specs.declared.commands.Word.TheVariants as word
use Rattle.article_spec.specs.Lines.{newline, max_article, IsLine}
use Rattle.article_write_spec.specs.ItemTexts.{is_escaped, component_text, item_text, text_of}
use Rattle.article_write_spec.specs.BinderNames.{binder_front, binder_name}
use Rattle.std.proofs.lemmas.Fmt.{length-decimal-le}
use Rattle.hol_spec.specs.Limits.{term_depth}
use Rattle.hol_spec.specs.Proofs.{Step}
use Rattle.article_write_spec.specs.ReachedSteps.{Numbered}
use Rattle.article_write_spec.specs.Drafts.{Kept, Draft, key_of, say, say_name, say_number, say_word, keep, refer, once_at, once, conses, write_each, write_list, write_pair}
use Rattle.article_write_spec.specs.WrittenTypes.{write_type, write_types, write_variable}
use Rattle.article_write_spec.specs.WrittenTerms.{binder_at, next_binder, once_closed, shared, write_under, write_term}
use Rattle.article_write_spec.specs.WrittenSteps.{write_premise, keep_theorem, keep_made, word_of, write_given, write_inferred, write_assumption, write_by, write_step}
use Rattle.article_write_spec.specs.Article.{version_draft}
use Rattle.article_write_laws.specs.NumberTextLaws.{decimal-HasValue}
use Rattle.article_write_laws.specs.ItemLaws.{IsWritableName, IsWritable, digits-IsLine}
use Rattle.article_write_laws.specs.Scenes.{key-place}

-- a command that can stand on a line, whose number is at most this
abbrev pub IsFine : ℕ → Item → Type 0
IsFine n (item.Number z) = (k : ℕ) × (z ≡ pos k) × (k ≤ n + 6)
IsFine n (item.Name m) = IsWritableName m
IsFine n (item.Word w) = Unit {0}

fine-more : (m n : ℕ) → m ≤ n → (i : Item) → IsFine m i → IsFine n i
fine-more m n le (item.Number z) h = (h.0, h.1, omega (arith, le, h.2))
fine-more m n le (item.Name k) h = h
fine-more m n le (item.Word w) h = h

pub record Fine (d : Draft) : Type 0 where
  pub items : AllByRecursion (IsFine (length d.kept)) d.commands
  pub keys : length d.kept ≤ length d.commands

abbrev pub Finely : (Draft → Draft) → Type 0
Finely write = (d : Draft) → Fine d → Fine (write d)

fine-said : {d : Draft} (i : Item) → IsFine (length d.kept) i → Fine d → Fine (say i d)
fine-said {d = d} i h f = record {
  items = All-append (IsFine (length d.kept)) d.commands (i ∷ []) f.items (h, tt {0});
  keys = omega (arith, f.keys, length-append d.commands (i ∷ []));
}

fine-word : {d : Draft} (w : Word) → Fine d → Fine (say_word w d)
fine-word w f = fine-said (item.Word w) tt f

fine-name : {d : Draft} (n : Name) → IsWritableName n → Fine d → Fine (say_name n d)
fine-name n h f = fine-said (item.Name n) h f

fine-number : {d : Draft} (k : ℕ) → k ≤ length d.kept → Fine d → Fine (say_number k d)
fine-number {d = d} k h f = fine-said (item.Number (pos k)) (k, refl, omega (arith, h)) f

fine-kept : {d : Draft} (x : Kept) → Fine d → Fine (keep x d)
fine-kept {d = d} x f =
    let g = fine-word word.Def (fine-number {d = d} (length d.kept) (omega arith) f) in
    let long : length (d.kept ++ x ∷ []) ≡ length d.kept + 1 = length-append d.kept (x ∷ []) in
    let one : length (d.commands ++ item.Number (pos (length d.kept)) ∷ []) ≡ length d.commands + 1 =
    length-append d.commands (item.Number (pos (length d.kept)) ∷ []) in
    let two : length ((d.commands ++ item.Number (pos (length d.kept)) ∷ []) ++ item.Word word.Def ∷ [])
    ≡ length (d.commands ++ item.Number (pos (length d.kept)) ∷ []) + 1 =
    length-append (d.commands ++ item.Number (pos (length d.kept)) ∷ []) (item.Word word.Def ∷ []) in
    record {
      items = All-weaker (IsFine (length d.kept)) (IsFine (length (d.kept ++ x ∷ [])))
          (fine-more (length d.kept) (length (d.kept ++ x ∷ [])) (omega (arith, long)))
          ((d.commands ++ item.Number (pos (length d.kept)) ∷ []) ++ item.Word word.Def ∷ []) g.items;
      keys = omega (arith, long, one, two, f.keys);
    }

fine-referred : {d : Draft} (k : ℕ) → k ≤ length d.kept → Fine d → Fine (refer k d)
fine-referred k h f = fine-word word.Ref (fine-number k h f)

fine-once : {d : Draft} (x : Kept) (build : Draft → Draft) → Fine d → Fine (build d) → Fine (once x build d)
fine-once {d = d} x build f b = go (key_of x d) refl
  where
    go : (o : Option ℕ) → key_of x d ≡ o → Fine (once_at o x build d)
    go None e = fine-kept x b
    go (Some k) e = let low = slice_get_within d.kept k x (key-place x d k e) in fine-referred k (omega (arith, low)) f

fine-conses : (k : ℕ) → Finely (conses k)
fine-conses zero d f = f
fine-conses (suc k) d f = fine-conses k (say_word word.Cons d) (fine-word word.Cons f)

fine-each : {A : Type 0} (write : A → Draft → Draft) (P : A → Type 0) → ((x : A) → P x → Finely (write x)) → (xs : List A) → AllByRecursion P xs
    → Finely (write_each write xs)
fine-each write P g [] h d f = f
fine-each write P g (x ∷ xs) h d f = fine-each write P g xs h.1 (write x d) (g x h.0 d f)

fine-list : {A : Type 0} (write : A → Draft → Draft) (P : A → Type 0) → ((x : A) → P x → Finely (write x)) → (xs : List A) → AllByRecursion P xs
    → Finely (write_list write xs)
fine-list write P g xs h d f = fine-conses (length xs) (say_word word.Nil (write_each write xs d)) (fine-word word.Nil (fine-each write P g xs h d f))

fine-pair : (one two : Draft → Draft) → Finely one → Finely two → Finely (write_pair one two)
fine-pair one two g h d f = fine-conses 2 (say_word word.Nil (two (one d))) (fine-word word.Nil (h (one d) (g d f)))

-- Whose names can be written
abbrev mutual
  pub TypeNamed : HolType → Type 0
  TypeNamed (HolType.variable n) = IsWritableName n
  TypeNamed (HolType.operator n ts) = IsWritableName n × TypesNamed ts

  pub TypesNamed : HolTypes → Type 0
  TypesNamed HolTypes.none = Unit {0}
  TypesNamed (HolTypes.more t ts) = TypeNamed t × TypesNamed ts

abbrev pub VariableNamed : Variable → Type 0
VariableNamed v = IsWritableName v.0 × TypeNamed v.1

abbrev pub TermNamed : Term → Type 0
TermNamed (Term.free n a) = VariableNamed (n, a)
TermNamed (Term.bound k) = Unit {0}
TermNamed (Term.constant n a) = IsWritableName n × TypeNamed a
TermNamed (Term.app f x) = TermNamed f × TermNamed x
TermNamed (Term.lam a b) = TypeNamed a × TermNamed b

-- what a rule is given
abbrev pub GivenNamed : Parameters → Type 0
GivenNamed Parameters.nothing = Unit {0}
GivenNamed (Parameters.term t) = TermNamed t
GivenNamed (Parameters.variable v) = VariableNamed v
GivenNamed (Parameters.substitution types terms) =
    AllByRecursion (λ (p : Name × HolType). IsWritableName p.0 × TypeNamed p.1) types
    × AllByRecursion (λ (p : Variable × Term). VariableNamed p.0 × TermNamed p.1) terms
GivenNamed (Parameters.sequent s) = AllByRecursion TermNamed s.hypotheses × TermNamed s.conclusion
GivenNamed (Parameters.constant n t) = IsWritableName n × TermNamed t
GivenNamed (Parameters.constants pairs) = AllByRecursion (λ (p : Name × Variable). IsWritableName p.0 × VariableNamed p.1) pairs
GivenNamed (Parameters.type_operator names version) =
    (IsWritableName names.operator × IsWritableName names.abstraction) × (IsWritableName names.representation × AllByRecursion IsWritableName names.variables)

mutual
  fine-type : (t : HolType) → TypeNamed t → Finely (write_type t)
  fine-type (HolType.variable n) h d f = fine-once (Kept.type (HolType.variable n)) (λ e. say_word word.VarType (say_name n e)) f
      (fine-word word.VarType (fine-name n h f))
  fine-type (HolType.operator n ts) h d f =
      fine-once (Kept.type (HolType.operator n ts))
      (λ e. say_word word.OpType (conses (count ts) (say_word word.Nil (write_types ts (say_word word.TypeOp (say_name n e)))))) f
      (fine-word word.OpType
      (fine-conses (count ts) (say_word word.Nil (write_types ts (say_word word.TypeOp (say_name n d))))
      (fine-word word.Nil (fine-types ts h.1 (say_word word.TypeOp (say_name n d)) (fine-word word.TypeOp (fine-name n h.0 f))))))

  fine-types : (ts : HolTypes) → TypesNamed ts → Finely (write_types ts)
  fine-types HolTypes.none h d f = f
  fine-types (HolTypes.more t ts) h d f = fine-types ts h.1 (write_type t d) (fine-type t h.0 d f)

fine-variable : (v : Variable) → VariableNamed v → Finely (write_variable v)
fine-variable v h d f = fine-word word.Var (fine-type v.1 h.1 (say_name v.0 d) (fine-name v.0 h.0 f))

fine-shared : {d : Draft} (t : Term) (build : Draft → Draft) → Fine d → Fine (build d) → Fine (shared t build d)
fine-shared {d = d} t build f b = go (loose t == 0)
  where
    go : (x : Bool) → Fine (once_closed x t build d)
    go true = fine-once (Kept.term t) build f b
    go false = b

-- The names of binders
length-component : (bytes : List ℕ) → length (component_text bytes) ≤ 2 * length bytes
length-component [] = omega arith
length-component (b ∷ bytes) = go (is_escaped b) (length-component bytes)
  where
    go : (x : Bool) → length (component_text bytes) ≤ 2 * length bytes
        → length (cond x (92 ∷ b ∷ component_text bytes) (b ∷ component_text bytes)) ≤ 2 * suc (length bytes)
    go true h = omega (arith, h)
    go false h = omega (arith, h)

pub binder-writable : (q d : ℕ) → q < 2 ^ 64 → d < 2 ^ 64 → IsWritableName (binder_name q d)
binder-writable q d hq hd =
    let bytes = binder_front q ++ decimal d in
    let front : length (decimal q) ≤ 20 = length-decimal-le 20 q (omega arith) (omega (arith, hq)) hq in
    let back : length (decimal d) ≤ 20 = length-decimal-le 20 d (omega arith) (omega (arith, hd)) hd in
    let whole : length bytes ≡ length (binder_front q) + length (decimal d) = length-append (binder_front q) (decimal d) in
    let start : length (binder_front q) ≡ 1 + length (decimal q ++ 95 ∷ []) = length-append (95 ∷ []) (decimal q ++ 95 ∷ []) in
    let rest : length (decimal q ++ 95 ∷ []) ≡ length (decimal q) + 1 = length-append (decimal q) (95 ∷ []) in
    let text : length (component_text bytes ++ 34 ∷ []) ≡ length (component_text bytes) + 1 = length-append (component_text bytes) (34 ∷ []) in
    let twice = length-component bytes in
    let bar : IsLine (95 ∷ []) = ((λ e. absurd (omega (arith, e))), tt {0}) in
    record {
      front = bytes;
      rest = [];
      some = refl;
      one_line = (
        All-append (λ b. b ≢ newline) (binder_front q) (decimal d)
            (All-append (λ b. b ≢ newline) (95 ∷ []) (decimal q ++ 95 ∷ []) bar
            (All-append (λ b. b ≢ newline) (decimal q) (95 ∷ []) (digits-IsLine (decimal q) (decimal-HasValue q (omega (arith, hq))).digits) bar))
            (digits-IsLine (decimal d) (decimal-HasValue d (omega (arith, hd))).digits),
        tt {0},
      );
      short = omega (arith, front, back, whole, start, rest, text, twice);
    }

module _ (q : ℕ) (small_q : q < 2 ^ 64) where
  binder-named : (vs : List Variable) (k : ℕ) → k < length vs → AllByRecursion VariableNamed vs → VariableNamed (binder_at vs k)
  binder-named [] k low h = absurd (omega (arith, low))
  binder-named (v ∷ vs) zero low h = h.0
  binder-named (v ∷ vs) (suc k) low h = binder-named vs k (omega (arith, low)) h.1

  fine-under : (t : Term) (vs : List Variable) → TermNamed t → AllByRecursion VariableNamed vs → loose t ≤ length vs → length vs + term_depth t < 2 ^ 64
      → Finely (write_under q vs t)
  fine-under (Term.free n a) vs h k l s d f = fine-shared (Term.free n a) (λ e. say_word word.VarTerm (write_variable (n, a) e)) f
      (fine-word word.VarTerm (fine-variable (n, a) h d f))
  fine-under (Term.bound j) vs h k l s d f = fine-word word.VarTerm (fine-variable (binder_at vs j) (binder-named vs j (omega (arith, l)) k) d f)
  fine-under (Term.constant n a) vs h k l s d f =
      fine-shared (Term.constant n a) (λ e. say_word word.ConstTerm (write_type a (say_word word.Const (say_name n e)))) f
      (fine-word word.ConstTerm (fine-type a h.1 (say_word word.Const (say_name n d)) (fine-word word.Const (fine-name n h.0 f))))
  fine-under (Term.app g x) vs h k l s d f =
      fine-shared (Term.app g x) (λ e. say_word word.AppTerm (write_under q vs x (write_under q vs g e))) f
      (fine-word word.AppTerm
      (fine-under x vs h.1 k (omega (arith, l)) (omega (arith, s)) (write_under q vs g d)
      (fine-under g vs h.0 k (omega (arith, l)) (omega (arith, s)) d f)))
  fine-under (Term.lam a b) vs h k l s d f =
      let v : Variable = next_binder q vs a in
      let named : VariableNamed v = (binder-writable q (length vs) small_q (omega (arith, s)), h.0) in
      fine-shared (Term.lam a b) (λ e. say_word word.AbsTerm (write_under q (v ∷ vs) b (write_variable v e))) f
      (fine-word word.AbsTerm (fine-under b (v ∷ vs) h.1 (named, k) (omega (arith, l)) (omega (arith, s)) (write_variable v d) (fine-variable v named d f)))

  -- a whole term: nothing is loose, and it is not too deep
  pub record IsNamed (t : Term) : Type 0 where
    pub names : TermNamed t
    pub closed : loose t ≤ 0
    pub small : term_depth t < 2 ^ 64

  fine-term : (t : Term) → IsNamed t → Finely (write_term q t)
  fine-term t h d f = fine-under t [] h.names (tt {0}) h.closed (omega (arith, h.small)) d f

  abbrev pub GivenFine : Parameters → Type 0
  GivenFine Parameters.nothing = Unit {0}
  GivenFine (Parameters.term t) = IsNamed t
  GivenFine (Parameters.variable v) = VariableNamed v
  GivenFine (Parameters.substitution types terms) =
      AllByRecursion (λ (p : Name × HolType). IsWritableName p.0 × TypeNamed p.1) types
      × AllByRecursion (λ (p : Variable × Term). VariableNamed p.0 × IsNamed p.1) terms
  GivenFine (Parameters.sequent s) = AllByRecursion IsNamed s.hypotheses × IsNamed s.conclusion
  GivenFine (Parameters.constant n t) = IsWritableName n × IsNamed t
  GivenFine (Parameters.constants pairs) = AllByRecursion (λ (p : Name × Variable). IsWritableName p.0 × VariableNamed p.1) pairs
  GivenFine (Parameters.type_operator names version) =
      (IsWritableName names.operator × IsWritableName names.abstraction) × (IsWritableName names.representation × AllByRecursion IsWritableName names.variables)

  fine-given : (g : Parameters) → GivenFine g → Finely (write_given q g)
  fine-given Parameters.nothing h d f = f
  fine-given (Parameters.term t) h d f = fine-term t h d f
  fine-given (Parameters.variable v) h d f = fine-variable v h d f
  fine-given (Parameters.substitution types terms) h d f =
      fine-pair (write_list (λ p. write_pair (say_name p.0) (write_type p.1)) types)
      (write_list (λ p. write_pair (write_variable p.0) (write_term q p.1)) terms)
      (fine-list (λ p. write_pair (say_name p.0) (write_type p.1)) (λ (p : Name × HolType). IsWritableName p.0 × TypeNamed p.1)
      (λ p k. fine-pair (say_name p.0) (write_type p.1) (λ e g. fine-name p.0 k.0 g) (fine-type p.1 k.1)) types h.0)
      (fine-list (λ p. write_pair (write_variable p.0) (write_term q p.1)) (λ (p : Variable × Term). VariableNamed p.0 × IsNamed p.1)
      (λ p k. fine-pair (write_variable p.0) (write_term q p.1) (fine-variable p.0 k.0) (fine-term p.1 k.1)) terms h.1) d f
  fine-given (Parameters.sequent s) h d f = fine-term s.conclusion h.1 (write_list (write_term q) s.hypotheses d)
      (fine-list (write_term q) IsNamed fine-term s.hypotheses h.0 d f)
  fine-given (Parameters.constant n t) h d f = fine-term t h.1 (say_name n d) (fine-name n h.0 f)
  fine-given (Parameters.constants pairs) h d f =
      fine-list (λ p. write_pair (say_name p.0) (write_variable p.1)) (λ (p : Name × Variable). IsWritableName p.0 × VariableNamed p.1)
      (λ p k. fine-pair (say_name p.0) (write_variable p.1) (λ e g. fine-name p.0 k.0 g) (fine-variable p.1 k.1)) pairs h d f
  fine-given (Parameters.type_operator names version) h d f =
      fine-list say_name IsWritableName (λ n k e g. fine-name n k g) names.variables h.1.1 _
      (fine-name names.representation h.1.0 (fine-name names.abstraction h.0.1 (fine-name names.operator h.0.0 f)))

  -- Steps
  fine-premise : (i : ℕ) → Finely (write_premise i)
  fine-premise i d f = go (key_of (Kept.theorem i) d) refl
    where
      go : (o : Option ℕ) → key_of (Kept.theorem i) d ≡ o → Fine (refer (unwrap_or o 0) d)
      go None e = fine-referred 0 (omega arith) f
      go (Some k) e = let low = slice_get_within d.kept k (Kept.theorem i) (key-place (Kept.theorem i) d k e) in fine-referred k (omega (arith, low)) f

  fine-premises : (is : List ℕ) → Finely (write_each write_premise is)
  fine-premises [] d f = f
  fine-premises (i ∷ is) d f = fine-premises is (write_premise i d) (fine-premise i d f)

  fine-theorem : (i : ℕ) → Finely (keep_theorem i)
  fine-theorem i d f = fine-word word.Pop (fine-kept (Kept.theorem i) f)

  fine-made : (kind : StepKind) (i : ℕ) → Finely (keep_made kind i)
  fine-made DefineConst i d f = fine-word word.Pop (fine-theorem i d f)
  fine-made DefineConstList i d f = fine-word word.Pop (fine-theorem i d f)
  fine-made FirstLaw i d f = fine-word word.Pop (fine-word word.Pop (fine-word word.Pop (fine-theorem i (keep_theorem (suc i) d) (fine-theorem (suc i) d f))))
  fine-made Refl i d f = fine-theorem i d f
  fine-made Assume i d f = fine-theorem i d f
  fine-made EqMp i d f = fine-theorem i d f
  fine-made AbsThm i d f = fine-theorem i d f
  fine-made AppThm i d f = fine-theorem i d f
  fine-made DeductAntisym i d f = fine-theorem i d f
  fine-made BetaConv i d f = fine-theorem i d f
  fine-made Sym i d f = fine-theorem i d f
  fine-made Trans i d f = fine-theorem i d f
  fine-made ProveHyp i d f = fine-theorem i d f
  fine-made Subst i d f = fine-theorem i d f
  fine-made Axiom i d f = fine-theorem i d f
  fine-made Restate i d f = fine-theorem i d f
  fine-made SecondLaw i d f = fine-theorem i d f

  fine-inferred : (i : ℕ) (x : Step) → GivenFine x.parameters → Finely (write_inferred q i x)
  fine-inferred i x h d f =
      fine-made x.kind i (say_word (word_of x.kind) (write_each write_premise x.premises (write_given q x.parameters d)))
      (fine-word (word_of x.kind) (fine-premises x.premises (write_given q x.parameters d) (fine-given x.parameters h d f)))

  fine-assumption : (i : ℕ) (x : Step) → GivenFine x.parameters → Finely (write_assumption q i x)
  fine-assumption i x h d f = fine-theorem i (say_word word.Axiom (write_given q x.parameters d)) (fine-word word.Axiom (fine-given x.parameters h d f))

  fine-by : (kind : StepKind) (b : Bool) (i : ℕ) (x : Step) → GivenFine x.parameters → Finely (write_by q kind b i x)
  fine-by Axiom b i x h d f = fine-assumption i x h d f
  fine-by Restate true i x h d f = fine-word word.Thm (fine-given x.parameters h (write_each write_premise x.premises d) (fine-premises x.premises d f))
  fine-by Restate false i x h d f = fine-assumption i x h d f
  fine-by SecondLaw b i x h d f = f
  fine-by DefineConst b i x h d f = fine-inferred i x h d f
  fine-by DefineConstList b i x h d f = fine-inferred i x h d f
  fine-by FirstLaw b i x h d f = fine-inferred i x h d f
  fine-by Refl b i x h d f = fine-inferred i x h d f
  fine-by Assume b i x h d f = fine-inferred i x h d f
  fine-by EqMp b i x h d f = fine-inferred i x h d f
  fine-by AbsThm b i x h d f = fine-inferred i x h d f
  fine-by AppThm b i x h d f = fine-inferred i x h d f
  fine-by DeductAntisym b i x h d f = fine-inferred i x h d f
  fine-by BetaConv b i x h d f = fine-inferred i x h d f
  fine-by Sym b i x h d f = fine-inferred i x h d f
  fine-by Trans b i x h d f = fine-inferred i x h d f
  fine-by ProveHyp b i x h d f = fine-inferred i x h d f
  fine-by Subst b i x h d f = fine-inferred i x h d f

  fine-steps : (exports : List ℕ) (ys : List Numbered) → AllByRecursion (λ (y : Numbered). GivenFine y.step.parameters) ys
      → Finely (write_each (write_step q exports) ys)
  fine-steps exports [] h d f = f
  fine-steps exports (y ∷ ys) h d f = fine-steps exports ys h.1 (write_step q exports y d) (fine-by y.step.kind _ y.number y.step h.0 d f)

  fine-start : (version : Version) → Fine (version_draft version)
  fine-start Five = record { items = tt {0}; keys = omega arith }
  fine-start Six = record { items = ((6, refl, omega arith), (tt, tt)); keys = omega arith }

  -- All of it can stand on lines
  length-text : (items : List Item) → length items ≤ length (text_of items)
  length-text [] = omega arith
  length-text (i ∷ is) =
      let whole : length (text_of (i ∷ is)) ≡ length (item_text i ++ 10 ∷ []) + length (text_of is) = length-append (item_text i ++ 10 ∷ []) (text_of is) in
      let line : length (item_text i ++ 10 ∷ []) ≡ length (item_text i) + 1 = length-append (item_text i) (10 ∷ []) in
      omega (arith, whole, line, length-text is)

  fine-writable : (n : ℕ) → n ≤ max_article → (i : Item) → IsFine n i → IsWritable i
  fine-writable n le (item.Number z) h = record { key = h.0; is = h.1; in_range = omega (arith, h.2, le) }
  fine-writable n le (item.Name m) h = h
  fine-writable n le (item.Word w) h = tt

  pub steps-writable : (version : Version) (exports : List ℕ) (ys : List Numbered) → AllByRecursion (λ (y : Numbered). GivenFine y.step.parameters) ys
      → length (text_of (write_each (write_step q exports) ys (version_draft version)).commands) ≤ max_article
      → AllByRecursion IsWritable (write_each (write_step q exports) ys (version_draft version)).commands
  steps-writable version exports ys h small =
      let d = write_each (write_step q exports) ys (version_draft version) in
      let f = fine-steps exports ys h (version_draft version) (fine-start version) in
      All-weaker (IsFine (length d.kept)) IsWritable (fine-writable (length d.kept) (omega (arith, f.keys, length-text d.commands, small))) d.commands f.items
