-- Accepted runs are good: each has a history.
use Rattle.std.proofs.Common.{◌≡◌, ℕ, List, [], ◌∷◌, ◌++◌, length, None, Ok, refl, sym, subst}
use Rattle.std.specs.List.{AllByRecursion}
use Rattle.hol_spec.specs.Definitions.{TypeNames}
use Rattle.hol_spec.specs.Rules.{Parameters}
use Rattle.hol_spec.specs.Proofs.{Accepted, Made, Step, IsProof}
use Rattle.hol_spec.specs.Over.{IsOver}
use Rattle.hol_laws.specs.Members.{All-each, All-weaker, IsIn-left}
use Rattle.article_spec.specs.Lines.{ended}
use Rattle.article_spec.specs.State.{State, initial, version_at}
use Rattle.article_spec.specs.State as object
use Rattle.article_spec.specs.Changes.{with_type, next_step, first_same}
use Rattle.article_spec.specs.RuleSteps.{NewType, type_laws, stated}
use Rattle.article_spec.specs.Run.{accepted_state, accepted, Run}
use Rattle.article_laws.specs.KeptRuns.{Reads, run-has}
use Rattle.article_laws.specs.Moves.{RunHas, Holds, Moves}
use Rattle.article_laws.specs.PartsLaws.{Weakens, object-weaker, inferred-weaker}
use Rattle.article_laws.specs.SoundDefining.{type_laws-made}
use Rattle.article_laws.specs.SoundStates.{parts-more, new-theorem}
use Rattle.article_laws.specs.SoundStating.{axiom_step-made, restate_step-made}
use Rattle.article_laws.specs.SoundSteps.{sound_moves, initial-run}
use Rattle.article_write_laws.specs.ItemLaws.{IsWritableName}
use Rattle.article_write_laws.specs.Histories.{History, IsGood}
use Rattle.article_write_laws.specs.Histories as histories
use Rattle.article_write_laws.specs.GoodStates.{told_parts, sound-parts, telling}
use Rattle.article_write_laws.specs.GoodBuilding.{all-named, app-good, abstraction-good, constant-history, operator-history}
use Rattle.article_write_laws.specs.GoodWords.{infers-good, constant-told, constants-told, stated-good, met-told, not-assumed}
use Rattle.article_write_laws.specs.GoodNames.{lines-good}

told-more : (m ys : List Made) → Weakens (told_parts m) (told_parts (m ++ ys))
told-more m ys =
    let more = parts-more m ys in
    record {
      names = λ n h. h;
      types = λ t h. (more.types t h.0, h.1);
      variables = λ v h. (more.variables v h.0, h.1);
      terms = λ t h. (more.terms t h.0, h.1);
      steps = λ i h. more.steps i h;
    }

-- what is defined of a type operator
type-told : (s : State) (names : TypeNames) (j : ℕ) (x : NewType) → History s.made s.assumptions s.exports
    → IsWritableName names.operator × IsWritableName names.abstraction × IsWritableName names.representation
    → AllByRecursion IsWritableName names.variables → (told_parts s.made).step j → type_laws (version_at s.place) s.made names j ≡ Ok x
    → History (with_type s x).made s.assumptions s.exports
type-told s names j x h o w k e =
    let y = type_laws-made (version_at s.place) s.made names j x e in
    subst (λ z. History (with_type s z).made s.assumptions s.exports) (sym y.is)
    (histories.History.type j names y.c y.f (version_at s.place) h k (record { built = tt {0}; named = ((o.0, o.1), (o.2, w)) }) refl)

-- each move keeps a run told
told_moves : Moves telling
told_moves = record {
  more = λ m ys x h. object-weaker (told_parts m) (told_parts (m ++ ys)) (told-more m ys) x h;
  new_step = new-theorem;
  type_variable = λ m n h.
      let sound = sound_moves.type_variable m n (tt {0}) in
      (sound, record { within = sound.1; named = h });
  variable = λ m v h k. (k.0, record { within = k.1.within; named = (h, k.1.named) });
  free = λ m v h l. (sound_moves.free m v h.0 l, record { built = record { ty = v.1; typed = refl; built = l }; named = h.1.named });
  app = λ m f x h k e l. (sound_moves.app m f x h.0 k.0 e l, app-good f x h.1 k.1 e l);
  abstracted = λ m v t h k l. (sound_moves.abstracted m v t h.0 k.0 l, abstraction-good v t h.1 k.1 l);
  operator = λ s n ts u g h k e l.
      let sound = sound_moves.operator s n ts u g.sound (tt {0}) (All-weaker _ _ (λ t q. q.0) ts k) e l in
      let good = All-weaker _ _ (λ t q. q.1) ts k in (
        record { sound = sound.0; history = operator-history s.made s.assumptions s.exports n (length ts) g.history; pool = g.pool },
        (sound.1, record { within = l; named = (h, all-named ts good) }),
      );
  constant = λ s n a u g h k e l.
      let sound = sound_moves.constant s n a u g.sound (tt {0}) k.0 e l in (
        record { sound = sound.0; history = constant-history s.made s.assumptions s.exports n g.history; pool = g.pool },
        (sound.1, record { built = record { ty = a; typed = refl; built = l }; named = (h, k.1.named) }),
      );
  rule = λ s x g h l.
      let k = infers-good s.made x h in
      record {
        sound = sound_moves.rule s x g.sound (inferred-weaker _ _ (sound-parts s.made) s.made x h) l;
        history = histories.History.inferred x g.history k.kind k.given refl;
        pool = g.pool;
      };
  define_const = λ s n t x g h k e l. record {
    sound = sound_moves.define_const s n t x g.sound (tt {0}) k.0 e l;
    history = constant-told s.made s.assumptions s.exports g.history n t x h k.1 e;
    pool = g.pool;
  };
  define_const_list = λ s pairs j x g h k e l. record {
    sound = sound_moves.define_const_list s pairs j x g.sound (All-weaker _ _ (λ q p. (tt {0}, p.1.0)) pairs h) k e l;
    history = constants-told s.made s.assumptions s.exports g.history pairs j x h k e;
    pool = g.pool;
  };
  define_type_op = λ s names j x g h w k e. record {
    sound = sound_moves.define_type_op s names j x g.sound (tt {0}, tt {0}, tt {0}) (All-each _ names.variables (λ n q. tt {0})) k e;
    history = type-told s names j x g.history h w k e;
    pool = g.pool;
  };
  meet = λ s hs c x j g h k e m l.
      let y = axiom_step-made hs c x e in
      let good = subst (λ (z : Step). IsGood (Parameters.sequent z.sequent)) (sym y.is) (stated-good s.made hs c h k) in
      record {
        sound = sound_moves.meet s hs c x j g.sound (All-weaker _ _ (λ t q. q.0) hs h) k.0 e m l;
        history = met-told s x.sequent j g.history g.pool good _ _ refl refl m;
        pool = g.pool;
      };
  assume = λ s hs c x g h k e m l.
      let y = axiom_step-made hs c x e in
      let none = not-assumed _ _ m in
      record {
        sound = sound_moves.assume s hs c x g.sound (All-weaker _ _ (λ t q. q.0) hs h) k.0 e m l;
        history =
            subst (λ (z : Step). History (s.made ++ Made.step z ∷ []) (s.assumptions ++ next_step s ∷ []) s.exports) (sym y.is)
            (histories.History.assumed (stated hs c) g.history (subst (λ (z : Step). first_same s s.assumptions z.sequent ≡ None) y.is none)
            (stated-good s.made hs c h k) refl refl);
        pool = g.pool;
      };
  export = λ s j hs c x g h k n e m l.
      let y = restate_step-made s.made j hs c x e in
      record {
        sound = sound_moves.export s j hs c x g.sound (All-weaker _ _ (λ t q. q.0) hs h) k.0 n e m l;
        history =
            subst (λ (z : Step). History (s.made ++ Made.step z ∷ []) s.assumptions (s.exports ++ next_step s ∷ [])) (sym y.is)
            (histories.History.exported (stated hs c) j g.history (subst (λ (z : Step). first_same s s.exports z.sequent ≡ None) y.is m)
            (stated-good s.made hs c h k) refl refl);
        pool = λ i q. IsIn-left s.exports (next_step s ∷ []) i (g.pool i q);
      };
}

-- what an accepted run has
pub record IsGoodRun (a : Accepted) : Type 0 where
  pub proof : IsProof a.made
  pub over : IsOver a.made
  pub history : History a.made a.assumptions a.exports

good-run : (s : State) → Holds telling s → IsGoodRun (accepted_state s)
good-run s h = record { proof = h.run.sound.proof; over = h.run.sound.over; history = h.run.history }

initial-told : RunHas telling initial
initial-told = record { sound = initial-run; history = histories.History.empty; pool = λ i h. h }

-- at the end of an article all exports are in the pool
ended-told : (s : State) → RunHas telling s → RunHas telling (record s { pool = s.exports })
ended-told s g = record { sound = g.sound; history = g.history; pool = λ i h. h }

names-written : Reads (λ bytes. Unit {0}) IsWritableName
names-written = record { commands = λ bytes cs line l h. lines-good bytes cs (ended line) l (tt {0}) }

pub runs-good : (articles : List (List ℕ)) (a : Accepted) → Run articles (accepted a) → IsGoodRun a
runs-good articles a r =
    run-has telling told_moves (λ s p g. g) ended-told (λ bytes. Unit {0}) IsWritableName names-written (λ m x h. h) IsGoodRun good-run
    articles a initial-told (All-each _ articles (λ bytes k. tt {0})) r
