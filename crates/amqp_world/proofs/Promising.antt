-- What holds of every two ends, by the laws of worlds; and two ends that have not begun.
use Rattle.std.proofs.Common.{ℕ, ◌≡◌, ◌≤◌, ◌<◌, ◌+◌, ◌*◌, None, Some, List, [], false, true, find, option_map, inl, inr, arith, refl, subst}
use Rattle.amqp_performatives.specs.declared.bodies.TransferBody.{TransferBody}
use Rattle.amqp_performatives.specs.declared.performative.Performative.TheVariants.{Transfer}
use Rattle.amqp_frames.specs.declared.frame.Frame.{Frame}
use Rattle.amqp_rules.specs.declared.config.Config.{Config}
use Rattle.amqp_rules.specs.PeerTransfer.{receives}
use Rattle.amqp_rules.specs.View.{LinkView, has_peer_handle, is_over, next_delivery}
use Rattle.amqp_rules.specs.Limits.{IsWithinLimits}
use Rattle.amqp_rules.specs.Opened.{no_reply}
use Rattle.amqp_laws.specs.declared.entry.Step.TheVariants.{Opened}
use Rattle.amqp_laws.specs.declared.entry.Entry.{Entry}
use Rattle.amqp_laws.specs.Past.{past}
use Rattle.amqp_laws.specs.Live.{live}
use Rattle.amqp_laws.specs.At.{at}
use Rattle.amqp_journal.specs.Log.{Log}
use Rattle.amqp_pair_laws.specs.Premise.{ids_heard, ids_sent}
use Rattle.amqp_pair_laws.specs.World.{IsFair, Tight, World}
use Rattle.amqp_pair_laws.specs.Taken.{IsNext, NextIsTaken}
use Rattle.amqp_pair_laws.specs.Takes as takes
use Rattle.amqp_pair_laws.specs.States as states
use Rattle.amqp_pair_laws.specs.Learns as learns
use Rattle.amqp_pair_laws.specs.Agreeing.{AtRest, CountsAgree, CreditIsKept, DrainsAgree, LinksAgree, SessionsAgree, UnsettledAgree, WindowReopens, WindowsAgree, on_way}
use Rattle.amqp_pair_laws.specs.Agreeing as pairs
use Rattle.amqp_world.specs.declared.heard.Hearing.{Hearing}
use Rattle.amqp_world.specs.declared.side.Side.{Side}
use Rattle.amqp_world.specs.declared.side.Side.TheVariants.{A, B}
use Rattle.amqp_world.specs.Sides.{Sides, of, opened, other}
use Rattle.amqp_world.specs.Knowing.{Meets, IsPair, unheard}
use Rattle.amqp_world.specs.Promises.{AgreesAtRest, AreReached, HasHeardAll, HasWhatItSaid, HearingEnds, HearsWhatWasSaid, KnowsTheOther, LearnsWhatWasSaid, TakesAll, TakesEver, TakesNext, TakesOnAttached, TakesWhatWasSent, TransferFindsRoom}

-- # The start

fair-open : (c : Config) (max_frame : ℕ) → IsWithinLimits c → IsFair c (record { step = Opened max_frame; reply = no_reply }) []
fair-open c max_frame limits = record { limits = limits; room = (let some : 1 ≤ c.journal_limit = limits.some in omega (arith, some)); answers = refl; told = tt; plain = tt }

pub start-meets : (mine theirs : Config) (max_frame their_max : ℕ) → IsWithinLimits mine → IsWithinLimits theirs → Meets (unheard theirs.first_id) (opened mine max_frame) (opened theirs their_max)
start-meets mine theirs max_frame their_max limits their_limits =
    record {
      limits = limits;
      their_limits = their_limits;
      whole = refl;
      unput = refl;
      opens = (their_max, refl);
      range = (tt, tt);
      moves = 2;
      world = inr (inl ((tt, tt), record { fair = fair-open theirs their_max their_limits; next = tt }), record { fair = fair-open mine max_frame limits; next = tt });
      knows = record { frames = refl; ids = refl; few = omega arith; ended = refl };
      first = refl;
      within = omega arith;
      all = refl;
    }

pub start-pair : (a_hears b_hears : Hearing) (a b : Log) (ca cb : Config) (ma mb : ℕ) → IsWithinLimits ca → IsWithinLimits cb → a_hears ≡ unheard cb.first_id → b_hears ≡ unheard ca.first_id
    → a ≡ opened ca mb → b ≡ opened cb ma → IsPair a_hears b_hears a b
start-pair a_hears b_hears a b ca cb ma mb la lb ha hb is-a is-b =
    rw (ha, hb, is-a, is-b) (record { a_meets = start-meets ca cb mb ma la lb; b_meets = start-meets cb ca ma mb lb la })

-- # Either end

pub record Met (mine theirs : Log) : Type 0 where
  pub hearing : Hearing
  pub meets : Meets hearing mine theirs

pub either : (a_hears b_hears : Hearing) (w : Sides) → IsPair a_hears b_hears w.a w.b → (side : Side) → Met (of side w) (of (other side) w)
either a_hears b_hears w p A = record { hearing = a_hears; meets = p.a_meets }
either a_hears b_hears w p B = record { hearing = b_hears; meets = p.b_meets }

-- # The laws

tight-there : (mine theirs : Log) (m : Met mine theirs) → HasHeardAll mine theirs → Tight theirs.config mine.config m.meets.moves (past theirs.journal) (past mine.journal)
tight-there mine theirs m all = record { world = m.meets.world; tight = all }

pub reached : (mine theirs : Log) → Met mine theirs → AreReached mine theirs
reached mine theirs m = (m.meets.moves, m.meets.world)

pub takes-next : NextIsTaken → (mine theirs : Log) → Met mine theirs → TakesNext mine theirs
takes-next law mine theirs m = λ f waits. law theirs.config mine.config m.meets.moves (past theirs.journal) (past mine.journal) f m.meets.world waits

pub takes-sent : takes.TakesWhatWasSent → (mine theirs : Log) → Met mine theirs → TakesWhatWasSent mine theirs
takes-sent law mine theirs m = λ name y found attached. law theirs.config mine.config m.meets.moves (past theirs.journal) (past mine.journal) name y m.meets.world found attached

pub takes-all : takes.TakesAll → (mine theirs : Log) → Met mine theirs → TakesAll mine theirs
takes-all law mine theirs m =
    λ all lives name x y there ours stays here stays'.
    law theirs.config mine.config m.meets.moves (past theirs.journal) (past mine.journal) name x y (tight-there mine theirs m all) lives there ours stays here stays'

pub hears-said : states.HearsWhatWasSaid → (mine theirs : Log) → Met mine theirs → HearsWhatWasSaid mine theirs
hears-said law mine theirs m = λ all lives. law theirs.config mine.config m.meets.moves (past theirs.journal) (past mine.journal) (tight-there mine theirs m all) lives

pub takes-ever : takes.TakesEver → (mine theirs : Log) → Met mine theirs → TakesEver mine theirs
takes-ever law mine theirs m =
    λ early name y tail found attached.
    law theirs.config mine.config m.meets.moves (past theirs.journal) (past mine.journal) early name y m.meets.world tail found attached

pub learns-said : learns.LearnsWhatWasSaid → (mine theirs : Log) → Met mine theirs → LearnsWhatWasSaid mine theirs
learns-said law mine theirs m = law theirs.config mine.config m.meets.moves (past theirs.journal) (past mine.journal) m.meets.world

pub takes-on-attached : takes.TakesOnAttached → (mine theirs : Log) → Met mine theirs → TakesOnAttached mine
takes-on-attached law mine theirs m = λ k. law theirs.config mine.config m.meets.moves (past theirs.journal) (past mine.journal) k m.meets.world

-- a law of the other end, said of either
said-there : states.HasWhatItSaid → (mine theirs : Log) → Met mine theirs → HasWhatItSaid theirs
said-there law mine theirs m = λ lives. law theirs.config mine.config m.meets.moves (past theirs.journal) (past mine.journal) m.meets.world lives

pub has-said : states.HasWhatItSaid → (a_hears b_hears : Hearing) (w : Sides) → IsPair a_hears b_hears w.a w.b → (side : Side) → HasWhatItSaid (of side w)
has-said law a_hears b_hears w p A = said-there law w.b w.a (either a_hears b_hears w p B)
has-said law a_hears b_hears w p B = said-there law w.a w.b (either a_hears b_hears w p A)

-- what is known of a transfer that comes next
abbrev pub OnTransfer : (Config → List Entry → TransferBody → Type 0) → Type 0
OnTransfer P =
    (ca cb : Config) (n : ℕ) (a b : List Entry) (f : Frame) (t : TransferBody) → World ca cb n a b → IsNext f a b → f.body ≡ Some (Transfer t)
    → is_over (at cb b).session ≡ false → P cb b t

pub finds-room : OnTransfer (λ c b t. 0 < (at c b).windows.incoming)
    → OnTransfer (λ c b t. option_map receives (find (has_peer_handle t.handle) (at c b).links) ≡ Some true)
    → OnTransfer (λ c b t. (l : LinkView) → find (has_peer_handle t.handle) (at c b).links ≡ Some l → l.left ≡ false → l.receiving ≡ None → 0 < l.credit.credit)
    → (mine theirs : Log) → Met mine theirs → TransferFindsRoom mine theirs
finds-room window link credit mine theirs m =
    λ f t waits is lives.
    record {
      window = window theirs.config mine.config m.meets.moves (past theirs.journal) (past mine.journal) f t m.meets.world waits is lives;
      link = link theirs.config mine.config m.meets.moves (past theirs.journal) (past mine.journal) f t m.meets.world waits is lives;
      credit = credit theirs.config mine.config m.meets.moves (past theirs.journal) (past mine.journal) f t m.meets.world waits is lives;
    }

-- what is known where all was heard
abbrev pub OnTight : (Config → Config → List Entry → List Entry → Type 0) → Type 0
OnTight P = (ca cb : Config) (n : ℕ) (a b : List Entry) → Tight ca cb n a b → P ca cb a b

pub knows-other : OnTight (λ ca cb a b. (at cb b).session.begin_heard ≡ (at ca a).session.begin_sent)
    → OnTight (λ ca cb a b. is_over (at cb b).session ≡ false → is_over (at ca a).session ≡ false)
    → OnTight (λ ca cb a b. is_over (at cb b).session ≡ false → ids_heard (live b) ≡ ids_sent (live a))
    → OnTight (λ ca cb a b. (id : ℕ) → is_over (at cb b).session ≡ false → (at cb b).expected ≡ Some id → id ≡ next_delivery (at ca a))
    → (mine theirs : Log) → Met mine theirs → KnowsTheOther mine theirs
knows-other begun lives ids expected mine theirs m =
    λ all.
    let t = tight-there mine theirs m all in
    record {
      begun = begun theirs.config mine.config m.meets.moves (past theirs.journal) (past mine.journal) t;
      lives = lives theirs.config mine.config m.meets.moves (past theirs.journal) (past mine.journal) t;
      ids = ids theirs.config mine.config m.meets.moves (past theirs.journal) (past mine.journal) t;
      expected = expected theirs.config mine.config m.meets.moves (past theirs.journal) (past mine.journal) t;
    }

-- the laws of two ends at rest
pub record AtRestLaws : Type 0 where
  pub sessions : SessionsAgree
  pub windows : WindowsAgree
  pub links : LinksAgree
  pub counts : CountsAgree
  pub drains : DrainsAgree
  pub unsettled : UnsettledAgree
  pub granted : CreditIsKept
  pub reopens : WindowReopens

pub agrees : AtRestLaws → (mine theirs : Log) → Met mine theirs → AgreesAtRest mine theirs
agrees laws mine theirs m all all' = (
  laws.sessions ca cb n a b rest,
  λ mapped. record {
    windows = laws.windows ca cb n a b rest mapped;
    links = λ role name x fx. laws.links ca cb n a b rest mapped role name x fx;
    counts = λ name x y fx fy ax ay. laws.counts ca cb n a b rest mapped name x y fx fy ax ay;
    drains = λ name x y fx fy ax ay open'. laws.drains ca cb n a b rest mapped name x y fx fy ax ay open';
    unsettled = laws.unsettled ca cb n a b rest mapped;
    granted = λ name x y fx fy ax ay. laws.granted ca cb n a b rest mapped name x y fx fy ax ay;
    reopens = λ refreshed. laws.reopens ca cb n a b rest mapped refreshed;
  },
)
  where
    ca : Config
    ca = theirs.config

    cb : Config
    cb = mine.config

    n : ℕ
    n = m.meets.moves

    a : List Entry
    a = past theirs.journal

    b : List Entry
    b = past mine.journal

    rest : AtRest ca cb n a b
    rest = record { world = m.meets.world; heard = all; answered = all' }

pub hearing-ends : pairs.HearingEnds → (mine theirs : Log) → Met mine theirs → HearingEnds mine theirs
hearing-ends law mine theirs m =
    λ k k' mine' theirs' reached' heard heard'.
    let late : World theirs'.config mine'.config reached'.0 (past theirs'.journal) (past mine'.journal) = reached'.1 in
    let late' : World theirs.config mine.config reached'.0 (past theirs'.journal) (past mine'.journal) =
    subst (λ (c : Config). World theirs.config c reached'.0 (past theirs'.journal) (past mine'.journal)) heard.config
    (subst (λ (c : Config). World c mine'.config reached'.0 (past theirs'.journal) (past mine'.journal)) heard'.config late) in
    let bound = law theirs.config mine.config m.meets.moves reached'.0 (past theirs.journal) (past mine.journal) (past theirs'.journal) (past mine'.journal) k' k m.meets.world late' heard'.hears heard.hears in
    turned (past mine.journal) (past theirs.journal) k k' bound
  where
    turned : (a b : List Entry) (k k' : ℕ) → k' + k ≤ 2 * on_way b a → k + k' ≤ 2 * on_way a b
    turned a b k k' h = omega (arith, h)
