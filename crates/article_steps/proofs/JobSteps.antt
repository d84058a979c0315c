-- What each job writes and leaves, as a step of its agenda.
use Rattle.std.proofs.Common.{◌≡◌, ℕ, zero, suc, ◌+◌, ◌-◌, ◌<◌, ◌≤◌, ◌==◌, Bool, true, false, List, [], ◌∷◌, ◌++◌, length, map, drop, Option, None, Some, IsSome, pos, refl, sym, ap, subst, ◌∙◌, arith}
use Rattle.std.specs.Prelude.{slice_get, slice_index_or, is_some}
use Rattle.std.specs.Option.{option_map}
use Rattle.std.proofs.lemmas.List.{length-map}
use Rattle.std.proofs.lemmas.Bool.Decides.{nat_tests}
use Rattle.hol_laws.specs.Members.{All-append}
use Rattle.hol_laws.specs.TermTyping.{loose-typed}
use Rattle.hol_spec.specs.Names.{Name}
use Rattle.hol_spec.specs.Types.{HolType, HolTypes, listed, count, types_of}
use Rattle.hol_spec.specs.Primitives.{bool, function}
use Rattle.hol_spec.specs.Limits.{type_size, type_depth, term_depth}
use Rattle.hol_spec.specs.Terms.{Term, Variable, type_under, type_of, application_type}
use Rattle.hol_spec.specs.TermBinding.{loose}
use Rattle.hol_type.specs.declared.table.TypeId.{TypeId}
use Rattle.hol_type.specs.Tables as type
use Rattle.hol_type.specs.Views.{AreBelow}
use Rattle.hol_type.specs.TableLaws.{Holds-tree_at, listed-types_of}
use Rattle.hol_term.specs.declared.TermId.{TermId}
use Rattle.hol_term.specs.Tables.{Trees, term_at, type_at}
use Rattle.article_spec.specs.declared.commands.Item.{Item}
use Rattle.article_spec.specs.declared.commands.Item.TheVariants as item
use Rattle.article_spec.specs.declared.commands.Word.{Word}
use Rattle.article_spec.specs.declared.commands.Word.TheVariants as word
use Rattle.article_write_spec.specs.BinderNames.{binder_name}
use Rattle.article_write_spec.specs.Lengths.{key_in}
use Rattle.article_write_spec.specs.Drafts.{Kept, kept_eq, Draft, key_of, say_name, say_word, keep, refer, once_at, conses, write_each}
use Rattle.article_write_spec.specs.WrittenTypes.{write_type, write_types, write_variable}
use Rattle.article_write_spec.specs.WrittenTerms.{next_binder, once_closed, write_under}
use Rattle.article_write_laws.specs.Opened.{opened-closed, type-opened}
use Rattle.article_write_laws.specs.KeptOnce.{IsTypeUpTo, still-no-key, type-adds, type-built, app-built, lam-built}
use Rattle.article_lines.specs.declared.keys.Thing.{Thing}
use Rattle.article_lines.specs.declared.keys.Thing.TheVariants as thing
use Rattle.article_steps.specs.declared.room.Job.TheVariants as job
use Rattle.article_steps.specs.Agenda.{Agenda}
use Rattle.article_lines.specs.Things.{Keyed, thing_key, with_thing}
use Rattle.article_lines.specs.KeptThings.{kept_at, key_in-thing, all_kept_at-push, IsThing}
use Rattle.article_steps.specs.Said.{fresh}
use Rattle.article_steps.specs.Parts.{build_type, arguments, build_under}
use Rattle.article_steps.specs.Agendas.{pushed, bound_by, unbound, variables, types_of_binders, do_jobs, parts_work, types_work, works, term_parts_work, IsTypeJob, IsTermJob, IsKeepJob, AreJobs}
use Rattle.article_steps.specs.Left.{kept_of, AreKeysOf, IsReady, Steps}
use Rattle.article_steps.proofs.SaidLaws.{write_type-once, write_under-shared}
use Rattle.article_steps.proofs.ArgumentLaws.{drop-argument, drop-arguments, argument-lower, argument-below}
use Rattle.article_steps.proofs.AgendaLaws.{length-variables, types-variables, binder_at-variables}

-- Depths
pub type_depth-positive : (t : HolType) → 1 ≤ type_depth t
type_depth-positive (HolType.variable n) = omega arith
type_depth-positive (HolType.operator n ts) = omega arith

pub term_depth-positive : (t : Term) → 1 ≤ term_depth t
term_depth-positive (Term.free n a) = omega arith
term_depth-positive (Term.bound k) = omega arith
term_depth-positive (Term.constant n a) = omega arith
term_depth-positive (Term.app f x) = omega arith
term_depth-positive (Term.lam a b) = omega arith

-- What is built has no key
pub type-none : (t : HolType) (d : Draft) → key_of (Kept.type t) d ≡ None → key_of (Kept.type t) (build_type t d) ≡ None
type-none (HolType.variable n) d e = e
type-none (HolType.operator n ts) d e = type-built n ts d e

-- types are no terms
not-term : (t : Term) (m : ℕ) (y : Kept) → IsTypeUpTo m y → kept_eq (Kept.term t) y ≡ false
not-term t m (Kept.type a) h = refl
not-term t m (Kept.term u) h = absurd h
not-term t m (Kept.theorem i) h = absurd h

behind-type : (t : Term) (a : HolType) (d : Draft) → key_of (Kept.term t) d ≡ None → key_of (Kept.term t) (write_type a d) ≡ None
behind-type t a d e = still-no-key (IsTypeUpTo (type_size a)) (Kept.term t) d (write_type a d) e (type-adds a d) (not-term t (type_size a))

pub term-none : (q : ℕ) (vs : List Variable) (t : Term) (d : Draft) → loose t ≡ 0 → key_of (Kept.term t) d ≡ None → key_of (Kept.term t) (build_under q vs t d)
    ≡ None
term-none q vs (Term.free n a) d c e = behind-type (Term.free n a) a (say_name n d) e
term-none q vs (Term.bound k) d c e = absurd (omega (arith, c))
term-none q vs (Term.constant n a) d c e = behind-type (Term.constant n a) a (say_word word.Const (say_name n d)) e
term-none q vs (Term.app f x) d c e = app-built q f x vs d e
term-none q vs (Term.lam a b) d c e = lam-built q a b vs d e

-- Loose numbers
-- a term that has a type has no loose number
pub closed-typed : (t : Term) (a : HolType) → type_of t ≡ Some a → loose t ≡ 0
closed-typed t a e = let h = loose-typed [] t a e in let z : loose t ≤ 0 = h in omega (arith, z)

pub is_some-of : {A : Type 0} (o : Option A) → IsSome o → (a : A) × (o ≡ Some a)
is_some-of None h = absurd (cc)
is_some-of (Some a) h = (a, refl)

pub some-of : {A : Type 0} {o : Option A} (a : A) → o ≡ Some a → IsSome o
some-of a e = ap is_some e

module _ (trees : Trees) (q : ℕ) where
  -- a term that is closed under binders and well typed there is well typed by itself
  pub typed-closed : (binders : List TypeId) (t : Term) → IsSome (type_under (types_of_binders trees binders) t) → loose t ≡ 0 → IsSome (type_of t)
  typed-closed binders t typed closed =
      let alone : type_of t ≡ type_under (map (λ (v : Variable). v.1) (variables trees q binders)) t =
      sym (ap (type_under []) (opened-closed 0 (variables trees q binders) t (omega (arith, closed))))
      ∙ type-opened [] (variables trees q binders) t (omega (arith, closed)) in
      subst IsSome (sym (alone ∙ ap (λ ts. type_under ts t) (types-variables trees q binders))) typed

  -- so a part without a type of its own has loose numbers
  pub open-untyped : (binders : List TypeId) (t : Term) → IsSome (type_under (types_of_binders trees binders) t) → type_of t ≡ None → (loose t == 0) ≡ false
  open-untyped binders t typed none = go (loose t == 0) refl
    where
      go : (b : Bool) → (loose t == 0) ≡ b → b ≡ false
      go false e = refl
      go true e =
          let closed : loose t ≡ 0 = grind (arith, nat_tests, e) in
          let some = is_some-of (type_of t) (typed-closed binders t typed closed) in
          absurd (let z = sym none ∙ some.1 in cc)

  pub closed-test : (t : Term) (a : HolType) → type_of t ≡ Some a → (loose t == 0) ≡ true
  closed-test t a e = let z : loose t ≡ 0 = closed-typed t a e in grind (arith, nat_tests, z)

  module _ (o : Agenda) (keys : Keyed) where
    -- Types
    pub type-known : (id : TypeId) (k : ℕ) → IsReady trees q (pushed (job.Type id) o) keys → key_in (kept_of trees keys) (kept_at trees (thing.Type id))
        ≡ Some k
        → Steps trees q (pushed (job.Type id) o) keys (item.Number (pos k) ∷ item.Word word.Ref ∷ []) o keys
    type-known id k r known =
        let t : HolType = type_at trees id.0 in
        let d : Draft = fresh (kept_of trees keys) in
        let e : write_type t d ≡ refer k d = write_type-once t d ∙ ap (λ x. once_at x (Kept.type t) (build_type t) d) known in
        record {
          rest = ap (do_jobs trees q o.binders o.jobs) e;
          jobs = subst (AreJobs trees q o.room o.binders o.jobs) e r.jobs.1;
          known = r.known;
          count =
              refl;
          room = refl;
          less = omega arith;
        }

    pub type-new : (id : TypeId) → IsReady trees q (pushed (job.Type id) o) keys → key_in (kept_of trees keys) (kept_at trees (thing.Type id)) ≡ None
        → Steps trees q (pushed (job.Type id) o) keys [] (pushed (job.TypeParts id) (pushed (job.Keep (thing.Type id)) o)) keys
    type-new id r none =
        let t : HolType = type_at trees id.0 in
        let d : Draft = fresh (kept_of trees keys) in
        let e : write_type t d ≡ keep (Kept.type t) (build_type t d) = write_type-once t d ∙ ap (λ x. once_at x (Kept.type t) (build_type t) d) none in
        let first : IsTypeJob trees o.room (length o.jobs) id = r.jobs.0 in
        record {
          rest = ap (do_jobs trees q o.binders o.jobs) e;
          jobs = (
            record { known = first.known; fits = omega (arith, first.fits) },
            (record { known = first.known; new = type-none t d none }, subst (AreJobs trees q o.room o.binders o.jobs) e r.jobs.1),
          );
          known = r.known;
          count = refl;
          room = refl;
          less = omega arith;
        }

    pub type-variable : (id : TypeId) (n : Name) → IsReady trees q (pushed (job.TypeParts id) o) keys → type_at trees id.0 ≡ HolType.variable n
        → Steps trees q (pushed (job.TypeParts id) o) keys (item.Name n ∷ []) (pushed (job.Word word.VarType) o) keys
    type-variable id n r is =
        let d : Draft = fresh (kept_of trees keys) in
        let e : build_type (type_at trees id.0) d ≡ say_word word.VarType (say_name n d) = ap (λ t. build_type t d) is in
        let first : IsTypeJob trees (o.room + 1) (length o.jobs) id = r.jobs.0 in
        let less : parts_work (type_at trees id.0) ≡ 2 = ap parts_work is in
        record {
          rest = ap (do_jobs trees q o.binders o.jobs) e;
          jobs = (omega (arith, first.fits, type_depth-positive (type_at trees id.0)), subst (AreJobs trees q o.room o.binders o.jobs) e r.jobs.1);
          known = r.known;
          count = refl;
          room = refl;
          less = omega (arith, less);
        }

    write_types-each : (ts : HolTypes) (d : Draft) → write_types ts d ≡ write_each write_type (listed ts) d
    write_types-each HolTypes.none d = refl
    write_types-each (HolTypes.more t ts) d = write_types-each ts (write_type t d)

    works-listed : (ts : HolTypes) → works (listed ts) ≡ types_work ts
    works-listed HolTypes.none = refl
    works-listed (HolTypes.more t ts) = ap (λ n. 3 + parts_work t + n) (works-listed ts)

    pub type-operator : (id : TypeId) (n : Name) (ts : HolTypes) (k : ℕ) → IsReady trees q (pushed (job.TypeParts id) o) keys → type_at trees id.0
        ≡ HolType.operator n ts → k ≡ count ts
        → Steps trees q (pushed (job.TypeParts id) o) keys (item.Name n ∷ [])
        (pushed (job.Word word.TypeOp) (pushed (job.Arguments id 0) (pushed (job.Word word.Nil) (pushed (job.Conses k) (pushed (job.Word word.OpType) o)))))
        keys
    type-operator id n ts k r is counted =
        let d : Draft = fresh (kept_of trees keys) in
        let named : Draft = say_word word.TypeOp (say_name n d) in
        let listing : drop 0 (arguments (type_at trees id.0)) ≡ listed ts = ap (λ t. drop 0 (arguments t)) is in
        let e : build_type (type_at trees id.0) d ≡ say_word word.OpType
        (conses k (say_word word.Nil (write_each write_type (drop 0 (arguments (type_at trees id.0))) named))) =
        ap (λ t. build_type t d) is
        ∙ ap (λ x. say_word word.OpType (conses (count ts) (say_word word.Nil x)))
        (write_types-each ts named ∙ ap (λ l. write_each write_type l named) (sym listing))
        ∙ ap (λ m. say_word word.OpType (conses m (say_word word.Nil (write_each write_type (drop 0 (arguments (type_at trees id.0))) named)))) (sym counted) in
        let first : IsTypeJob trees (o.room + 1) (length o.jobs) id = r.jobs.0 in
        let fits = first.fits in
        let positive = type_depth-positive (type_at trees id.0) in
        let whole : parts_work (type_at trees id.0) ≡ 6 + count ts + types_work ts = ap parts_work is in
        let parts : works (drop 0 (arguments (type_at trees id.0))) ≡ types_work ts = ap works listing ∙ works-listed ts in
        record {
          rest = ap (do_jobs trees q o.binders o.jobs) e;
          jobs = (
            omega (arith, fits, positive),
            (
              record { known = first.known; fits = omega (arith, fits) },
              (
                omega (arith, fits, positive),
                (omega (arith, fits, positive), (omega (arith, fits, positive), subst (AreJobs trees q o.room o.binders o.jobs) e r.jobs.1)),
              ),
            ),
          );
          known = r.known;
          count = refl;
          room = refl;
          less = omega (arith, whole, parts, counted);
        }

    pub arguments-end : (id : TypeId) (i : ℕ) → IsReady trees q (pushed (job.Arguments id i) o) keys → drop i (arguments (type_at trees id.0)) ≡ []
        → Steps trees q (pushed (job.Arguments id i) o) keys [] o keys
    arguments-end id i r none =
        let d : Draft = fresh (kept_of trees keys) in
        let e : write_each write_type (drop i (arguments (type_at trees id.0))) d ≡ d = ap (λ l. write_each write_type l d) none in
        record {
          rest = ap (do_jobs trees q o.binders o.jobs) e;
          jobs = subst (AreJobs trees q o.room o.binders o.jobs) e r.jobs.1;
          known = r.known;
          count =
              refl;
          room = refl;
          less = omega arith;
        }

    pub arguments-next : (id : TypeId) (i : ℕ) (a : TypeId) → IsReady trees q (pushed (job.Arguments id i) o) keys → a.0 < length trees.types
        → drop i (arguments (type_at trees id.0)) ≡ type_at trees a.0 ∷ drop (i + 1) (arguments (type_at trees id.0))
        → type_depth (type_at trees a.0) + 1 ≤ type_depth (type_at trees id.0)
        → Steps trees q (pushed (job.Arguments id i) o) keys [] (pushed (job.Type a) (pushed (job.Arguments id (i + 1)) o)) keys
    arguments-next id i a r known is lower =
        let d : Draft = fresh (kept_of trees keys) in
        let e : write_each write_type (drop i (arguments (type_at trees id.0))) d
        ≡ write_each write_type (drop (i + 1) (arguments (type_at trees id.0))) (write_type (type_at trees a.0) d) =
        ap (λ l. write_each write_type l d) is in
        let first : IsTypeJob trees (o.room + 4) (length o.jobs) id = r.jobs.0 in
        let fits = first.fits in
        let parts : works (drop i (arguments (type_at trees id.0)))
        ≡ 3 + parts_work (type_at trees a.0) + works (drop (i + 1) (arguments (type_at trees id.0))) = ap works is in
        record {
          rest = ap (do_jobs trees q o.binders o.jobs) e;
          jobs = (
            record { known = known; fits = omega (arith, fits, lower) },
            (record { known = first.known; fits = fits }, subst (AreJobs trees q o.room o.binders o.jobs) e r.jobs.1),
          );
          known = r.known;
          count = refl;
          room = refl;
          less = omega (arith, parts);
        }

    -- Words and keys
    pub word-said : (w : Word) → IsReady trees q (pushed (job.Word w) o) keys → Steps trees q (pushed (job.Word w) o) keys (item.Word w ∷ []) o keys
    word-said w r = record { rest = refl; jobs = r.jobs.1; known = r.known; count = refl; room = refl; less = omega arith }

    pub conses-end : (k : ℕ) → k ≡ 0 → IsReady trees q (pushed (job.Conses k) o) keys → Steps trees q (pushed (job.Conses k) o) keys [] o keys
    conses-end k z r =
        let d : Draft = fresh (kept_of trees keys) in
        let e : conses k d ≡ d = ap (λ n. conses n d) z in
        record {
          rest = ap (do_jobs trees q o.binders o.jobs) e;
          jobs = subst (AreJobs trees q o.room o.binders o.jobs) e r.jobs.1;
          known = r.known;
          count =
              refl;
          room = refl;
          less = omega arith;
        }

    pub conses-next : (k less : ℕ) → k ≡ suc less → IsReady trees q (pushed (job.Conses k) o) keys
        → Steps trees q (pushed (job.Conses k) o) keys (item.Word word.Cons ∷ []) (pushed (job.Conses less) o) keys
    conses-next k less is r =
        let d : Draft = fresh (kept_of trees keys) in
        let e : conses k d ≡ conses less (say_word word.Cons d) = ap (λ n. conses n d) is in
        record {
          rest = ap (do_jobs trees q o.binders o.jobs) e;
          jobs = (r.jobs.0, subst (AreJobs trees q o.room o.binders o.jobs) e r.jobs.1);
          known =
              r.known;
          count = refl;
          room = refl;
          less = omega (arith, is);
        }

    pub thing-more : (count : ℕ) (x : Thing) → IsThing trees 0 x → IsThing trees count x
    thing-more count (thing.Type a) h = h
    thing-more count (thing.Term t) h = h
    thing-more count (thing.Theorem i) h = absurd (omega (arith, h))

    pub keep-next : (x : Thing) (k : ℕ) → k ≡ length keys.things → IsReady trees q (pushed (job.Keep x) o) keys
        → Steps trees q (pushed (job.Keep x) o) keys (item.Number (pos k) ∷ item.Word word.Def ∷ []) o (with_thing x keys)
    keep-next x k is r =
        let d : Draft = fresh (kept_of trees keys) in
        let first : IsKeepJob trees (kept_of trees keys) x = r.jobs.0 in
        let number : length (kept_of trees keys) ≡ k = length-map keys.things (kept_at trees) ∙ sym is in
        let e : keep (kept_at trees x) d ≡ record { commands = item.Number (pos k) ∷ item.Word word.Def ∷ []; kept = kept_of trees (with_thing x keys) } =
        ap (λ n. record { commands = item.Number (pos n) ∷ item.Word word.Def ∷ []; kept = kept_of trees keys ++ kept_at trees x ∷ [] }) number
        ∙ ap (λ l. record { commands = item.Number (pos k) ∷ item.Word word.Def ∷ []; kept = l }) (sym (all_kept_at-push trees keys.things x)) in
        record {
          rest = ap (do_jobs trees q o.binders o.jobs) e;
          jobs = subst (AreJobs trees q o.room o.binders o.jobs) e r.jobs.1;
          known = record {
            types = r.known.types;
            terms = r.known.terms;
            things =
                All-append (IsThing trees keys.theorems) keys.things (x ∷ []) r.known.things (thing-more keys.theorems x first.known, tt);
            distinct =
                r.known.distinct;
          };
          count = refl;
          room = refl;
          less = omega arith;
        }

    pub binder-ends : IsReady trees q (pushed job.Unbind o) keys → Steps trees q (pushed job.Unbind o) keys [] (unbound o) keys
    binder-ends r = record { rest = refl; jobs = r.jobs.1; known = r.known; count = refl; room = refl; less = omega arith }

    -- Terms
    pub term-known : (id : TermId) (k : ℕ) → IsReady trees q (pushed (job.Term id) o) keys → (loose (term_at trees id.0) == 0) ≡ true
        → key_in (kept_of trees keys) (kept_at trees (thing.Term id)) ≡ Some k
        → Steps trees q (pushed (job.Term id) o) keys (item.Number (pos k) ∷ item.Word word.Ref ∷ []) o keys
    term-known id k r closed known =
        let t : Term = term_at trees id.0 in
        let vs = variables trees q o.binders in
        let d : Draft = fresh (kept_of trees keys) in
        let e : write_under q vs t d ≡ refer k d =
        write_under-shared q vs t d ∙ ap (λ b. once_closed b t (build_under q vs t) d) closed
        ∙ ap (λ x. once_at x (Kept.term t) (build_under q vs t) d) known in
        record {
          rest = ap (do_jobs trees q o.binders o.jobs) e;
          jobs = subst (AreJobs trees q o.room o.binders o.jobs) e r.jobs.1;
          known = r.known;
          count =
              refl;
          room = refl;
          less = omega arith;
        }

    pub term-new : (id : TermId) (a : HolType) → IsReady trees q (pushed (job.Term id) o) keys → type_of (term_at trees id.0) ≡ Some a
        → key_in (kept_of trees keys) (kept_at trees (thing.Term id)) ≡ None
        → Steps trees q (pushed (job.Term id) o) keys [] (pushed (job.TermParts id) (pushed (job.Keep (thing.Term id)) o)) keys
    term-new id a r typed none =
        let t : Term = term_at trees id.0 in
        let vs = variables trees q o.binders in
        let d : Draft = fresh (kept_of trees keys) in
        let e : write_under q vs t d ≡ keep (Kept.term t) (build_under q vs t d) =
        write_under-shared q vs t d ∙ ap (λ b. once_closed b t (build_under q vs t) d) (closed-test t a typed)
        ∙ ap (λ x. once_at x (Kept.term t) (build_under q vs t) d) none in
        let first : IsTermJob trees o.room 0 (length o.jobs) o.binders id = r.jobs.0 in
        record {
          rest = ap (do_jobs trees q o.binders o.jobs) e;
          jobs = (
            record { known = first.known; typed = first.typed; fits = omega (arith, first.fits); bound = first.bound; binds = omega (arith, first.binds) },
            (
              record { known = first.known; new = term-none q vs t d (closed-typed t a typed) none },
              subst (AreJobs trees q o.room o.binders o.jobs) e r.jobs.1,
            ),
          );
          known = r.known;
          count = refl;
          room = refl;
          less = omega arith;
        }

    pub term-open : (id : TermId) → IsReady trees q (pushed (job.Term id) o) keys → type_of (term_at trees id.0) ≡ None
        → Steps trees q (pushed (job.Term id) o) keys [] (pushed (job.TermParts id) o) keys
    term-open id r none =
        let t : Term = term_at trees id.0 in
        let vs = variables trees q o.binders in
        let d : Draft = fresh (kept_of trees keys) in
        let first : IsTermJob trees o.room 0 (length o.jobs) o.binders id = r.jobs.0 in
        let e : write_under q vs t d ≡ build_under q vs t d =
        write_under-shared q vs t d ∙ ap (λ b. once_closed b t (build_under q vs t) d) (open-untyped o.binders t first.typed none) in
        record {
          rest = ap (do_jobs trees q o.binders o.jobs) e;
          jobs = (
            record {
              known = first.known;
              typed = first.typed;
              fits = omega (arith, first.fits);
              bound = first.bound;
              binds =
                  omega (arith, first.binds);
            },
            subst (AreJobs trees q o.room o.binders o.jobs) e r.jobs.1,
          );
          known = r.known;
          count = refl;
          room = refl;
          less = omega arith;
        }

    -- a type behind two jobs more
    behind-two : (id : TermId) (a : TypeId) → IsReady trees q (pushed (job.TermParts id) o) keys → a.0 < length trees.types
        → IsTypeJob trees o.room (length o.jobs + 2) a
    behind-two id a r known =
        let first : IsTermJob trees o.room 2 (length o.jobs) o.binders id = r.jobs.0 in
        let fits = first.fits in
        let positive = term_depth-positive (term_at trees id.0) in
        let roomy = r.roomy.types a.0 known in
        record { known = known; fits = omega (arith, fits, positive, roomy) }

    -- a word behind at most four jobs more
    pub behind-four : (id : TermId) → IsReady trees q (pushed (job.TermParts id) o) keys → length o.jobs + 4 < o.room
    behind-four id r =
        let first : IsTermJob trees o.room 2 (length o.jobs) o.binders id = r.jobs.0 in
        let fits = first.fits in
        let positive = term_depth-positive (term_at trees id.0) in
        omega (arith, fits, positive)

    -- a variable of this name and type, as a term
    as-variable : (id : TermId) (n : Name) (a : TypeId) → IsReady trees q (pushed (job.TermParts id) o) keys → a.0 < length trees.types
        → ((d : Draft) → build_under q (variables trees q o.binders) (term_at trees id.0) d ≡ say_word word.VarTerm (write_variable (n, type_at trees a.0) d))
        → term_parts_work (types_of_binders trees o.binders) (term_at trees id.0) ≡ 5 + parts_work (type_at trees a.0)
        → Steps trees q (pushed (job.TermParts id) o) keys (item.Name n ∷ [])
        (pushed (job.Type a) (pushed (job.Word word.Var) (pushed (job.Word word.VarTerm) o))) keys
    as-variable id n a r known is works =
        let d : Draft = fresh (kept_of trees keys) in
        let four = behind-four id r in
        let two = behind-two id a r known in
        let fits = two.fits in
        record {
          rest = ap (do_jobs trees q o.binders o.jobs) (is d);
          jobs = (
            record { known = known; fits = omega (arith, fits) },
            (omega (arith, four), (omega (arith, four), subst (AreJobs trees q o.room o.binders o.jobs) (is d) r.jobs.1)),
          );
          known = r.known;
          count = refl;
          room = refl;
          less = omega (arith, works);
        }

    pub parts-free : (id : TermId) (n : Name) (a : TypeId) → IsReady trees q (pushed (job.TermParts id) o) keys → a.0 < length trees.types → term_at trees id.0
        ≡ Term.free n (type_at trees a.0)
        → Steps trees q (pushed (job.TermParts id) o) keys (item.Name n ∷ [])
        (pushed (job.Type a) (pushed (job.Word word.Var) (pushed (job.Word word.VarTerm) o))) keys
    parts-free id n a r known is =
        let works : term_parts_work (types_of_binders trees o.binders) (term_at trees id.0) ≡ 3 + (2 + parts_work (type_at trees a.0)) =
        ap (term_parts_work (types_of_binders trees o.binders)) is in
        as-variable id n a r known (λ d. ap (λ t. build_under q (variables trees q o.binders) t d) is) (omega (arith, works))

    binder-known : (binders : List TypeId) (k : ℕ) (a : TypeId) → type.AreKnown trees.types binders → slice_get binders k ≡ Some a → a.0 < length trees.types
    binder-known [] k a h e = absurd (cc)
    binder-known (b ∷ binders) zero a h e = let one : b ≡ a = cc in subst (λ (c : TypeId). c.0 < length trees.types) one h.0
    binder-known (b ∷ binders) (suc k) a h e = binder-known binders k a h.1 e

    type-binder : (binders : List TypeId) (k : ℕ) (a : TypeId) → slice_get binders k ≡ Some a → slice_index_or (types_of_binders trees binders) k bool
        ≡ type_at trees a.0
    type-binder [] k a e = absurd (cc)
    type-binder (b ∷ binders) zero a e = let one : b ≡ a = cc in ap (λ (c : TypeId). type_at trees c.0) one
    type-binder (b ∷ binders) (suc k) a e = type-binder binders k a e

    pub parts-bound : (id : TermId) (k m : ℕ) (a : TypeId) → IsReady trees q (pushed (job.TermParts id) o) keys → term_at trees id.0 ≡ Term.bound k
        → slice_get o.binders k ≡ Some a
        → m ≡ length o.binders - suc k
        → Steps trees q (pushed (job.TermParts id) o) keys (item.Name (binder_name q m) ∷ [])
        (pushed (job.Type a) (pushed (job.Word word.Var) (pushed (job.Word word.VarTerm) o))) keys
    parts-bound id k m a r is at number =
        let first : IsTermJob trees o.room 2 (length o.jobs) o.binders id = r.jobs.0 in
        let known : a.0 < length trees.types = binder-known o.binders k a first.bound at in
        let works : term_parts_work (types_of_binders trees o.binders) (term_at trees id.0) ≡ 3 + (2 + parts_work (type_at trees a.0)) =
        ap (term_parts_work (types_of_binders trees o.binders)) is ∙ ap (λ b. 3 + (2 + parts_work b)) (type-binder o.binders k a at) in
        as-variable id (binder_name q m) a r known
        (λ d. ap (λ t. build_under q (variables trees q o.binders) t d) is
        ∙ ap (λ v. say_word word.VarTerm (write_variable v d))
        (binder_at-variables trees q o.binders k a at ∙ ap (λ n. (binder_name q n, type_at trees a.0)) (sym number)))
        (omega (arith, works))

    pub parts-constant : (id : TermId) (n : Name) (a : TypeId) → IsReady trees q (pushed (job.TermParts id) o) keys → a.0 < length trees.types
        → term_at trees id.0 ≡ Term.constant n (type_at trees a.0)
        → Steps trees q (pushed (job.TermParts id) o) keys (item.Name n ∷ [])
        (pushed (job.Word word.Const) (pushed (job.Type a) (pushed (job.Word word.ConstTerm) o))) keys
    parts-constant id n a r known is =
        let d : Draft = fresh (kept_of trees keys) in
        let e : build_under q (variables trees q o.binders) (term_at trees id.0) d
        ≡ say_word word.ConstTerm (write_type (type_at trees a.0) (say_word word.Const (say_name n d))) =
        ap (λ t. build_under q (variables trees q o.binders) t d) is in
        let works : term_parts_work (types_of_binders trees o.binders) (term_at trees id.0) ≡ 3 + (2 + parts_work (type_at trees a.0)) =
        ap (term_parts_work (types_of_binders trees o.binders)) is in
        let four = behind-four id r in
        let two = behind-two id a r known in
        let fits = two.fits in
        record {
          rest = ap (do_jobs trees q o.binders o.jobs) e;
          jobs = (
            omega (arith, four),
            (record { known = known; fits = omega (arith, fits) }, (omega (arith, four), subst (AreJobs trees q o.room o.binders o.jobs) e r.jobs.1)),
          );
          known = r.known;
          count = refl;
          room = refl;
          less = omega (arith, works);
        }

    typed-parts : (f x : Option HolType) → IsSome (application_type f x) → IsSome f × IsSome x
    typed-parts None x h = absurd (cc)
    typed-parts (Some p) None h = absurd (cc)
    typed-parts (Some p) (Some y) h = (refl, refl)

    typed-body : (a : HolType) (b : Option HolType) → IsSome (option_map (function a) b) → IsSome b
    typed-body a None h = absurd (cc)
    typed-body a (Some b) h = refl

    pub parts-application : (id f x : TermId) → IsReady trees q (pushed (job.TermParts id) o) keys → f.0 < length trees.terms → x.0 < length trees.terms
        → term_at trees id.0 ≡ Term.app (term_at trees f.0) (term_at trees x.0)
        → Steps trees q (pushed (job.TermParts id) o) keys [] (pushed (job.Term f) (pushed (job.Term x) (pushed (job.Word word.AppTerm) o))) keys
    parts-application id f x r one two is =
        let d : Draft = fresh (kept_of trees keys) in
        let vs = variables trees q o.binders in
        let types = types_of_binders trees o.binders in
        let e : build_under q vs (term_at trees id.0) d
        ≡ say_word word.AppTerm (write_under q vs (term_at trees x.0) (write_under q vs (term_at trees f.0) d)) = ap (λ t. build_under q vs t d) is in
        let first : IsTermJob trees o.room 2 (length o.jobs) o.binders id = r.jobs.0 in
        let works : term_parts_work types (term_at trees id.0) ≡ 6 + term_parts_work types (term_at trees f.0) + term_parts_work types (term_at trees x.0) =
        ap (term_parts_work types) is in
        let deep : term_depth (term_at trees id.0) ≡ term_depth (Term.app (term_at trees f.0) (term_at trees x.0)) = ap term_depth is in
        let typed = typed-parts (type_under types (term_at trees f.0)) (type_under types (term_at trees x.0))
        (subst (λ t. IsSome (type_under types t)) is first.typed) in
        let fits = first.fits in
        let binds = first.binds in
        let four = behind-four id r in
        record {
          rest = ap (do_jobs trees q o.binders o.jobs) e;
          jobs = (
            record { known = one; typed = typed.0; fits = omega (arith, fits, deep); bound = first.bound; binds = omega (arith, binds, deep) },
            (
              record { known = two; typed = typed.1; fits = omega (arith, fits, deep); bound = first.bound; binds = omega (arith, binds, deep) },
              (omega (arith, four), subst (AreJobs trees q o.room o.binders o.jobs) e r.jobs.1),
            ),
          );
          known = r.known;
          count = refl;
          room = refl;
          less = omega (arith, works);
        }

    pub parts-abstraction : (id : TermId) (a : TypeId) (b : TermId) → IsReady trees q (pushed (job.TermParts id) o) keys → a.0 < length trees.types
        → b.0 < length trees.terms
        → term_at trees id.0 ≡ Term.lam (type_at trees a.0) (term_at trees b.0)
        → Steps trees q (pushed (job.TermParts id) o) keys (item.Name (binder_name q (length o.binders)) ∷ [])
        (bound_by a (pushed (job.Type a) (pushed (job.Word word.Var) (pushed (job.Term b) (pushed job.Unbind (pushed (job.Word word.AbsTerm) o)))))) keys
    parts-abstraction id a b r one two is =
        let d : Draft = fresh (kept_of trees keys) in
        let vs = variables trees q o.binders in
        let types = types_of_binders trees o.binders in
        let v : Variable = next_binder q vs (type_at trees a.0) in
        let named : Draft = record { commands = item.Name (binder_name q (length o.binders)) ∷ []; kept = kept_of trees keys } in
        let e : build_under q vs (term_at trees id.0) d
        ≡ say_word word.AbsTerm (write_under q (v ∷ vs) (term_at trees b.0) (say_word word.Var (write_type (type_at trees a.0) named))) =
        ap (λ t. build_under q vs t d) is
        ∙ ap (λ n. say_word word.AbsTerm
        (write_under q (v ∷ vs) (term_at trees b.0) (say_word word.Var (write_type (type_at trees a.0) (say_name (binder_name q n) d)))))
        (length-variables trees q o.binders) in
        let first : IsTermJob trees o.room 2 (length o.jobs) o.binders id = r.jobs.0 in
        let works : term_parts_work types (term_at trees id.0)
        ≡ 6 + (2 + parts_work (type_at trees a.0)) + term_parts_work (type_at trees a.0 ∷ types) (term_at trees b.0) = ap (term_parts_work types) is in
        let deep : term_depth (term_at trees id.0) ≡ term_depth (Term.lam (type_at trees a.0) (term_at trees b.0)) = ap term_depth is in
        let typed = typed-body (type_at trees a.0) (type_under (type_at trees a.0 ∷ types) (term_at trees b.0))
        (subst (λ t. IsSome (type_under types t)) is first.typed) in
        let fits = first.fits in
        let binds = first.binds in
        let roomy = r.roomy.types a.0 one in
        let four = behind-four id r in
        record {
          rest = ap (do_jobs trees q o.binders o.jobs) e;
          jobs = (
            record { known = one; fits = omega (arith, fits, deep, roomy) },
            (
              omega (arith, four),
              (
                record { known = two; typed = typed; fits = omega (arith, fits, deep); bound = (one, first.bound); binds = omega (arith, binds, deep) },
                (omega (arith, four), (omega (arith, four), subst (AreJobs trees q o.room o.binders o.jobs) e r.jobs.1)),
              ),
            ),
          );
          known = r.known;
          count = refl;
          room = refl;
          less = omega (arith, works);
        }

    -- Keys
    -- the key of a thing is that of what it stands for
    pub key-of : (x : Thing) → AreKeysOf trees keys → IsThing trees keys.theorems x → key_in (kept_of trees keys) (kept_at trees x) ≡ thing_key keys x
    key-of x known h = key_in-thing trees keys.theorems keys.things x known.distinct known.things h

    -- Room
    pub type-room : (id : TypeId) → IsReady trees q (pushed (job.Type id) o) keys → length o.jobs + 5 < o.room
    type-room id r = let first : IsTypeJob trees o.room (length o.jobs) id = r.jobs.0 in let fits = first.fits in let positive =
        type_depth-positive (type_at trees id.0) in omega (arith, fits, positive)

    pub type_parts-room : (id : TypeId) → IsReady trees q (pushed (job.TypeParts id) o) keys → length o.jobs + 4 < o.room
    type_parts-room id r = let first : IsTypeJob trees (o.room + 1) (length o.jobs) id = r.jobs.0 in let fits = first.fits in let positive =
        type_depth-positive (type_at trees id.0) in omega (arith, fits, positive)

    pub arguments-room : (id : TypeId) (i : ℕ) → IsReady trees q (pushed (job.Arguments id i) o) keys → length o.jobs + 1 < o.room
    arguments-room id i r = let first : IsTypeJob trees (o.room + 4) (length o.jobs) id = r.jobs.0 in let fits = first.fits in let positive =
        type_depth-positive (type_at trees id.0) in omega (arith, fits, positive)

    pub term-room : (id : TermId) → IsReady trees q (pushed (job.Term id) o) keys → length o.jobs + 5 < o.room
    term-room id r = let first : IsTermJob trees o.room 0 (length o.jobs) o.binders id = r.jobs.0 in let fits = first.fits in let positive =
        term_depth-positive (term_at trees id.0) in omega (arith, fits, positive)

    -- Arguments
    pub argument-next : (id : TypeId) (i : ℕ) (n : Name) (ids : List TypeId)
        → type.Holds trees.types id.0 (HolType.operator n (types_of (type.types_at trees.types ids))) → AreBelow id.0 ids → i < length ids
        → IsReady trees q (pushed (job.Arguments id i) o) keys
        → Steps trees q (pushed (job.Arguments id i) o) keys []
        (pushed (job.Type (slice_index_or ids i (record { 0 = 0 }))) (pushed (job.Arguments id (i + 1)) o)) keys
    argument-next id i n ids holds below h r =
        let d : TypeId = record { 0 = 0 } in
        let ts = trees.types in
        let a : TypeId = slice_index_or ids i d in
        let first : IsTypeJob trees (o.room + 4) (length o.jobs) id = r.jobs.0 in
        let is : type_at trees id.0 ≡ HolType.operator n (types_of (type.types_at ts ids)) = Holds-tree_at ts id.0 _ holds in
        let all : arguments (type_at trees id.0) ≡ type.types_at ts ids = ap arguments is ∙ listed-types_of (type.types_at ts ids) in
        let deep : type_depth (type_at trees id.0) ≡ type_depth (HolType.operator n (types_of (type.types_at ts ids))) = ap type_depth is in
        let low = argument-lower ts ids i d h in
        let under : a.0 < id.0 = argument-below id.0 ids i d below h in
        let known = first.known in
        arguments-next id i a r (omega (arith, under, known))
        (ap (drop i) all ∙ drop-argument ts ids i d h ∙ ap (λ l. type_at trees a.0 ∷ drop (i + 1) l) (sym all)) (omega (arith, deep, low))

    pub argument-none : (id : TypeId) (i : ℕ) (n : Name) (ids : List TypeId)
        → type.Holds trees.types id.0 (HolType.operator n (types_of (type.types_at trees.types ids))) → length ids ≤ i
        → IsReady trees q (pushed (job.Arguments id i) o) keys → Steps trees q (pushed (job.Arguments id i) o) keys [] o keys
    argument-none id i n ids holds h r =
        let ts = trees.types in
        let is : type_at trees id.0 ≡ HolType.operator n (types_of (type.types_at ts ids)) = Holds-tree_at ts id.0 _ holds in
        let all : arguments (type_at trees id.0) ≡ type.types_at ts ids = ap arguments is ∙ listed-types_of (type.types_at ts ids) in
        arguments-end id i r (ap (drop i) all ∙ drop-arguments ts ids i h)

    pub argument-variable : (id : TypeId) (i : ℕ) (n : Name) → type.Holds trees.types id.0 (HolType.variable n)
        → IsReady trees q (pushed (job.Arguments id i) o) keys → Steps trees q (pushed (job.Arguments id i) o) keys [] o keys
    argument-variable id i n holds r = arguments-end id i r (ap (λ t. drop i (arguments t)) (Holds-tree_at trees.types id.0 _ holds) ∙ none i)
      where
        none : (k : ℕ) → drop k (arguments (HolType.variable n)) ≡ []
        none zero = refl
        none (suc k) = refl

  pub steps-on : (old new is : Agenda) (keys keys_now : Keyed) (items : List Item) → new ≡ is → Steps trees q old keys items is keys_now
      → Steps trees q old keys items new keys_now
  steps-on old new is keys keys_now items e s = subst (λ a. Steps trees q old keys items a keys_now) (sym e) s
