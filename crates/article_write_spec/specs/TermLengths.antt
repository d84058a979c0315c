-- What types and terms add to the length of an article. A part of a term with loose numbers adds at each place what its parts have for keys and the
-- number of binders round it tell, however large it is: so it is counted once for each number of binders. The types of the variables for which
-- bound numbers stand are counted where these variables are bound.
use Rattle.std.specs.Prelude.{ℕ, suc, ◌+◌, ◌-◌, ◌*◌, ◌==◌, Bool, true, false, if◌then◌else◌, IsSome, List}
use Rattle.hol_spec.specs.Names.{Name}
use Rattle.hol_spec.specs.Types.{HolType, HolTypes, count}
use Rattle.hol_spec.specs.Terms.{Term}
use Rattle.hol_spec.specs.TermBinding.{loose}
use Rattle.article_spec.specs.declared.commands.Word.TheVariants as word
use Rattle.article_write_spec.specs.BinderNames.{binder_name}
use Rattle.article_write_spec.specs.Drafts.{Kept}
use Rattle.article_write_spec.specs.Lengths.{name_length, word_length, Tally, key_in, key_length, add, count_once}

abbrev mutual
  pub count_type : HolType → Tally → Tally
  count_type (HolType.variable n) m = count_once (Kept.type (HolType.variable n)) (add (name_length n + word_length word.VarType)) m
  count_type (HolType.operator n ts) m =
      count_once (Kept.type (HolType.operator n ts))
      (λ e. add (word_length word.Nil + count ts * word_length word.Cons + word_length word.OpType)
      (count_types ts (add (name_length n + word_length word.TypeOp) e))) m

  pub count_types : HolTypes → Tally → Tally
  count_types HolTypes.none m = m
  count_types (HolTypes.more t ts) m = count_types ts (count_type t m)

abbrev pub count_variable : Name → HolType → Tally → Tally
count_variable n a m = add (word_length word.Var) (count_type a (add (name_length n) m))

-- how often a number stands in a term that passes i of the binders round it
abbrev pub uses : ℕ → Term → ℕ
uses i (Term.free n a) = 0
uses i (Term.bound k) = if k == i then 1 else 0
uses i (Term.constant n a) = 0
uses i (Term.app f x) = uses i f + uses i x
uses i (Term.lam a b) = uses (suc i) b

-- what an abstraction adds behind its body: its word, and for each number that its binder binds what tells the type of the variable
abbrev pub binder_length : List Kept → HolType → Term → ℕ
binder_length kept a b = uses 0 b * key_length kept (Kept.type a) + word_length word.AbsTerm

abbrev pub count_binder : HolType → Term → Tally → Tally
count_binder a b m = add (binder_length m.kept a b) m

abbrev pub closed_or : Bool → ℕ → ℕ → ℕ
closed_or true n k = n
closed_or false n k = k

-- once where nothing is loose
abbrev pub count_closed : Bool → Term → (Tally → Tally) → Tally → Tally
count_closed true t build m = count_once (Kept.term t) build m
count_closed false t build m = build m

abbrev pub count_shared : Term → (Tally → Tally) → Tally → Tally
count_shared t build m = count_closed (loose t == 0) t build m

module _ (q : ℕ) where
  -- the variable of a bound number under d binders, without its type
  abbrev pub number_length : ℕ → ℕ → ℕ
  number_length d k = name_length (binder_name q (d - suc k)) + word_length word.Var + word_length word.VarTerm

  -- a part of a term under d binders
  abbrev pub count_under : ℕ → Term → Tally → Tally
  count_under d (Term.free n a) m = count_shared (Term.free n a) (λ e. add (word_length word.VarTerm) (count_variable n a e)) m
  count_under d (Term.bound k) m = add (number_length d k) m
  count_under d (Term.constant n a) m =
      count_shared (Term.constant n a) (λ e. add (word_length word.ConstTerm) (count_type a (add (name_length n + word_length word.Const) e))) m
  count_under d (Term.app f x) m = count_shared (Term.app f x) (λ e. add (word_length word.AppTerm) (count_under d x (count_under d f e))) m
  count_under d (Term.lam a b) m = count_shared (Term.lam a b) (λ e. count_binder a b (count_under (suc d) b (count_variable (binder_name q d) a e))) m

  -- what it adds where all has a key that is told by one
  abbrev pub place_length : List Kept → ℕ → Term → ℕ
  place_length kept d (Term.free n a) = key_length kept (Kept.term (Term.free n a))
  place_length kept d (Term.bound k) = number_length d k
  place_length kept d (Term.constant n a) = key_length kept (Kept.term (Term.constant n a))
  place_length kept d (Term.app f x) = closed_or (loose (Term.app f x) == 0) (key_length kept (Kept.term (Term.app f x)))
      (place_length kept d f + place_length kept d x + word_length word.AppTerm)
  place_length kept d (Term.lam a b) =
      closed_or (loose (Term.lam a b) == 0) (key_length kept (Kept.term (Term.lam a b)))
      (name_length (binder_name q d) + key_length kept (Kept.type a) + word_length word.Var + place_length kept (suc d) b + binder_length kept a b)

-- whether something has a key
abbrev pub HasKey : List Kept → Kept → Type 0
HasKey kept x = IsSome (key_in kept x)

abbrev pub closed_has : Bool → Type 0 → Type 0 → Type 0
closed_has true P Q = P
closed_has false P Q = Q

-- All of a part of a term has a key that is told by one: the part itself, or where it has loose numbers, its parts and the types of its binders.
abbrev pub AreKept : List Kept → Term → Type 0
AreKept kept (Term.free n a) = HasKey kept (Kept.term (Term.free n a))
AreKept kept (Term.bound k) = Unit {0}
AreKept kept (Term.constant n a) = HasKey kept (Kept.term (Term.constant n a))
AreKept kept (Term.app f x) = closed_has (loose (Term.app f x) == 0) (HasKey kept (Kept.term (Term.app f x))) (AreKept kept f × AreKept kept x)
AreKept kept (Term.lam a b) = closed_has (loose (Term.lam a b) == 0) (HasKey kept (Kept.term (Term.lam a b))) (HasKey kept (Kept.type a) × AreKept kept b)
