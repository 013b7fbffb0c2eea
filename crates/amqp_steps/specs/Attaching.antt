-- What the private checks of an attach promise.
use Rattle.std.specs.Prelude.{ℕ, ◌≡◌, nat_lt, not, Bool, true, false, Option, Some, None, List, [], cond, find, is_some, map}
use Rattle.std.specs.Borrow.{Bor}
use Rattle.std.specs.List.{list_any}
use Rattle.amqp_flow.specs.Credit.{count_given}
use Rattle.amqp_performatives.specs.declared.performative.Performative.TheVariants.{Attach}
use Rattle.amqp_links.specs.declared.fate.Fate.{Fate}
use Rattle.amqp_links.specs.declared.fate.Fate.TheVariants.{Ours, Asked}
use Rattle.amqp_links.specs.declared.marks.Marks.{Marks}
use Rattle.amqp_links.specs.Credits.{role_of}
use Rattle.amqp_links.specs.Links.{IsFirst}
use Rattle.amqp_links.specs.Marks.{with_marks}
use Rattle.amqp_links.specs.Resuming.{ResumingView, resuming_by_us, waiting_as}
use Rattle.amqp_waiting.specs.declared.item.SuspendedItem.{SuspendedItem}
use Rattle.amqp_waiting.specs.OurUnsettled.{is_fair_item}
use Rattle.amqp_waiting.specs.Waiting.{has_twice, unclear}
use Rattle.amqp_rules.specs.View.{View, LinkView, EndView, is_mapped, is_ours, is_offered_as, is_sender, free_handle, new_link}
use Rattle.amqp_rules.specs.Attach.{own_attach, attach_sent, count_of, Wanted as Asked_for}
use Rattle.amqp_rules.specs.Sending.{frame_refused}
use Rattle.amqp_steps.specs.declared.attach.Wanted.{Wanted}
use Rattle.amqp_steps.specs.declared.attach.Meeting.{Meeting}

-- the deliveries that are brought in
abbrev pub items_in : Option (Bor (List SuspendedItem)) → List SuspendedItem
items_in None = []
items_in (Some b) = b.now

-- a disposition could not have the state of one of them
abbrev pub has_unfair : List SuspendedItem → Bool
has_unfair is = list_any (λ i. not (is_fair_item i)) is

abbrev pub wanted_of : Wanted → Asked_for
wanted_of w =
    record {
      name = w.name.now;
      role = w.role;
      snd = w.snd;
      rcv = w.rcv;
      source = w.source.now;
      target = w.target.now;
      count = w.count;
      max_message = w.max_message;
      items = items_in w.brought;
    }

-- an offered link has our attach, or one more is asked for
abbrev pub attached_fate : List ℕ → Option ℕ → ℕ → EndView → Marks → ResumingView → Fate
attached_fate name (Some key) n end m r = Ours key n end m r
attached_fate name None n end m r = Asked name end m r

-- what the link has to resume then, by the link that is met
abbrev pub resuming_met : Asked_for → Option LinkView → ResumingView
resuming_met a None = waiting_as (map unclear a.items)
resuming_met a (Some l) = resuming_by_us a.items l

-- the link with the delivery-count that our attach tells where we send
abbrev pub counted_by : Asked_for → LinkView → LinkView
counted_by a l = record l { credit = cond (is_sender l.role) (count_given (count_of (own_attach a 0)) l.credit) l.credit }

-- the first link that is offered is met, or one more is made; it has this number, and these marks after the attach
abbrev pub Meets : View → Asked_for → Option ℕ → ℕ → Marks → Type 0
Meets v a (Some key) n m = (on : LinkView) × IsFirst (is_offered_as a.role a.name) v.links on × (n ≡ on.number) × (with_marks m on ≡ counted_by a on)
Meets v a None n m =
    (find (is_offered_as a.role a.name) v.links ≡ None)
    × (n ≡ v.made)
    × (role_of m.credit ≡ a.role)
    × ((k : ℕ) → with_marks m (new_link k a.role a.name) ≡ counted_by a (new_link k a.role a.name))

-- an attach is taken: no refusal is due
pub record IsMeeting (v : View) (a : Asked_for) (w : Meeting) : Type 0 where
  pub mapped : is_mapped v.session ≡ true
  pub unused : is_some (find (is_ours a.role a.name) v.links) ≡ false
  pub handle : w.handle ≡ free_handle v.links
  pub low : nat_lt v.handle_max (free_handle v.links) ≡ false
  pub distinct : has_twice a.items ≡ false
  pub fair : list_any (λ i. not (is_fair_item i)) a.items ≡ false
  pub written : frame_refused v.max_frame (Some (Attach (attach_sent v a))) [] ≡ None
  pub meets : Meets v a w.met w.number w.marks
