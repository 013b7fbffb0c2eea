-- The plan of a flow that is heard.
use Rattle.std.proofs.Common.{◌≡◌, ◌∙◌, ℕ, ◌+◌, ◌&&◌, not, Bool, true, false, cond, Option, Some, None, Ok, List, [], inl, inr, refl, ap, arith, is_some, ◌∷◌}
use Rattle.std.specs.Option.{option_map}
use Rattle.amqp_performatives.specs.declared.bodies.FlowBody.{FlowBody}
use Rattle.amqp_performatives.specs.declared.performative.Performative.TheVariants.{Flow}
use Rattle.amqp_flow.specs.Windows.{WindowsView, windows_renewed}
use Rattle.amqp_links.specs.declared.fate.Fate.{Fate}
use Rattle.amqp_links.specs.declared.fate.Fate.TheVariants.{Stay, Marked}
use Rattle.amqp_links.specs.declared.marks.Marks.{Marks}
use Rattle.amqp_links.specs.Fate.{IsFit, links_after}
use Rattle.amqp_links.specs.Links.{IsFirst}
use Rattle.amqp_links.specs.Marks.{with_marks}
use Rattle.amqp_deliveries.specs.declared.change.Change.TheVariants as change
use Rattle.amqp_rules.specs.declared.reply.Given.TheVariants as given
use Rattle.amqp_rules.specs.declared.violation.Violation.{Violation}
use Rattle.amqp_rules.specs.Flow.{flow_answer, flow_reply, flow_link, flow_links, flowed, named_link, names_no_link, next_flow, echo_body, is_ahead_of_link}
use Rattle.amqp_rules.specs.Opened.{no_reply}
use Rattle.amqp_rules.specs.Sending.{reply_of}
use Rattle.amqp_rules.specs.View.{View, LinkView, is_attached, takes_frames, has_number, has_peer_handle, change_first}
use Rattle.amqp_steps.specs.declared.plan.Session.{Session}
use Rattle.amqp_steps.specs.Stores.{StoresView}
use Rattle.amqp_steps.specs.declared.peer_flow.Flowing.{Flowing}
use Rattle.amqp_steps.specs.Flowing.{IsStill, session_ahead, session_after, windows_told_by, sends_echo, echo_plan}
use Rattle.amqp_steps.specs.Plan.{AreShort, IsCounted, IsKept, IsPlan, flags_of, plan_reply, view_of}
use Rattle.amqp_steps.proofs.Plans.{change-alike, short-found, shorter, expects-same}

echo-reply : (v : View) (session : Session) (fate : Fate) (echo : Bool) (body : FlowBody)
    → cond echo (reply_of (Some (Flow body)) [] given.Nothing) no_reply ≡ plan_reply (echo_plan (record { session = session; fate = fate; echo = echo; body = body })) v
echo-reply v session fate true body = refl
echo-reply v session fate false body = refl

numbers-after : (begun echo : Bool) (b : FlowBody) (w : WindowsView)
    → let n : WindowsView = cond echo (windows_renewed (windows_told_by begun b w)) (windows_told_by begun b w) in (n.sent ≡ w.sent) × (n.first ≡ w.first)
numbers-after true true b w = (refl, refl)
numbers-after true false b w = (refl, refl)
numbers-after false true b w = (refl, refl)
numbers-after false false b w = (refl, refl)

counted-after : (k : ℕ) (s : Session) (st : StoresView) (b : FlowBody) → IsKept k s st → IsCounted (view_of k s st) change.Stay (session_after b s)
counted-after k s st b i =
    let n = numbers-after s.begin_sent (sends_echo s.begin_sent b) b s.windows in
    record {
      sent = (let h = i.sent in rw n.0 (omega (arith, h)));
      deliveries = (let h = i.deliveries in omega (arith, h));
      ours = inl (rw n.1 refl);
      theirs = expects-same s.expected;
      begun = tt;
    }

answer-is : (k : ℕ) (s : Session) (st : StoresView) (b : FlowBody) (o : Option LinkView)
    → takes_frames (flags_of s) ≡ true → names_no_link b st.links.list ≡ false → session_ahead s.begin_sent b s.windows ≡ false → named_link st.links.list b.handle ≡ o → is_ahead_of_link b o ≡ false
    → flow_answer (view_of k s st) b ≡ Ok (flow_reply (sends_echo s.begin_sent b) (session_after b s).windows (option_map (flow_link b) o))
answer-is k s st b o takes none ahead named behind = rw (takes, none, ahead, named, behind) refl

leaves-is : (k : ℕ) (s : Session) (st : StoresView) (b : FlowBody) (links : List LinkView) → flow_links b b.handle st.links.list ≡ links
    → next_flow (view_of k s st) b ≡ view_of (k + 1) (session_after b s) (record { links = record { made = st.links.made; list = links }; tables = st.tables })
leaves-is k s st b links h = rw h refl

planned-echo : (k : ℕ) (s : Session) (st : StoresView) (b : FlowBody) (f : Fate) (o : Option LinkView) (x : Flowing) → IsKept k s st
    → flow_answer (view_of k s st) b ≡ Ok (flow_reply (sends_echo s.begin_sent b) (session_after b s).windows o)
    → next_flow (view_of k s st) b ≡ view_of (k + 1) (session_after b s) (record { links = links_after f st.links; tables = st.tables })
    → IsFit f st.links → AreShort (k + 1) f
    → x ≡ record { session = session_after b s; fate = f; echo = sends_echo s.begin_sent b; body = echo_body (session_after b s).windows o }
    → IsPlan {E = Violation} (view_of k s st) (flow_answer (view_of k s st) b) (next_flow (view_of k s st) b) (echo_plan x)
planned-echo k s st b f o x i due leaves fit short h =
    rw h
    record {
      due = rw due (ap (λ y. Ok y) (echo-reply (view_of k s st) (session_after b s) f (sends_echo s.begin_sent b) (echo_body (session_after b s).windows o)));
      leaves = leaves;
      sound = record { fit = fit; short = short; counted = counted-after k s st b i; alone = tt };
    }

-- # A flow that names no link

none-named : (o : Option ℕ) (b : FlowBody) (links : List LinkView) → b.handle ≡ o → o ≡ None → names_no_link b links ≡ false
none-named None b links e h = rw e refl
none-named (Some n) b links e h = absurd (cc)

named-none : (o : Option ℕ) (links : List LinkView) → o ≡ None → named_link links o ≡ None
named-none o links h = rw h refl

links-none : (b : FlowBody) (o : Option ℕ) (links : List LinkView) → o ≡ None → flow_links b o links ≡ links
links-none b o links h = rw h refl

-- # A flow that names one

no-other : (b : FlowBody) (h : ℕ) (links : List LinkView) (l : LinkView) → b.handle ≡ Some h → IsFirst (has_peer_handle h) links l → names_no_link b links ≡ false
no-other b h links l e i = rw (e, i.found) refl

named-is : (o : Option ℕ) (h : ℕ) (links : List LinkView) (l : LinkView) → o ≡ Some h → IsFirst (has_peer_handle h) links l → named_link links o ≡ Some l
named-is o h links l e i = rw (e, i.found) refl

links-are : (b : FlowBody) (o : Option ℕ) (h : ℕ) (links : List LinkView) (l : LinkView) (f : LinkView → LinkView) → o ≡ Some h → IsFirst (has_peer_handle h) links l → flow_link b l ≡ f l
    → flow_links b o links ≡ change_first (has_number l.number) f links
links-are b o h links l f e i g = rw (e, i.alone (flow_link b), change-alike (has_number l.number) (flow_link b) f links l i.numbered g) refl

-- one that we have left stays as it is
left-stays : (b : FlowBody) (l : LinkView) → l.left ≡ true → flow_link b l ≡ l
left-stays b l e = by l.left e
  where
    by : (x : Bool) → x ≡ true → ◌≡◌ {A = LinkView} (cond x l (flowed b l)) l
    by true e = refl
    by false e = absurd (cc)

pub stays-first : (test : LinkView → Bool) (links : List LinkView) → change_first test (λ l. l) links ≡ links
stays-first test [] = refl
stays-first test (l ∷ links) = by (test l) (stays-first test links)
  where
    by : (x : Bool) → change_first test (λ m. m) links ≡ links → cond x (l ∷ links) (l ∷ change_first test (λ m. m) links) ≡ l ∷ links
    by true e = refl
    by false e = ap (λ ls. l ∷ ls) e

attached-left : (x y : Bool) → y ≡ true → (x && not y) ≡ false
attached-left true true e = refl
attached-left true false e = absurd (cc)
attached-left false y e = refl

left-not_attached : (l : LinkView) → l.left ≡ true → is_attached l ≡ false
left-not_attached l e = attached-left (is_some l.ours && is_some l.theirs) l.left e

passed-body : (w : WindowsView) (b : FlowBody) (l : LinkView) → l.left ≡ true → echo_body w (Some (flow_link b l)) ≡ echo_body w None
passed-body w b l e = rw (left-stays b l e, left-not_attached l e) refl

passed-behind : (b : FlowBody) (l : LinkView) → l.left ≡ true → is_ahead_of_link b (Some l) ≡ false
passed-behind b l e = rw (left-not_attached l e) refl

pub still-flow-plan : (k : ℕ) (s : Session) (st : StoresView) (b : FlowBody) (x : Flowing) → IsKept k s st
    → takes_frames (flags_of s) ≡ true → session_ahead s.begin_sent b s.windows ≡ false → IsStill (view_of k s st) b
    → x ≡ record { session = session_after b s; fate = Stay; echo = sends_echo s.begin_sent b; body = echo_body (session_after b s).windows None }
    → IsPlan {E = Violation} (view_of k s st) (flow_answer (view_of k s st) b) (next_flow (view_of k s st) b) (echo_plan x)
still-flow-plan k s st b x i takes ahead (inl names) m =
    planned-echo k s st b Stay None x i
    (answer-is k s st b None takes (none-named b.handle b st.links.list refl names) ahead (named-none b.handle st.links.list names) refl)
    (leaves-is k s st b st.links.list (links-none b b.handle st.links.list names))
    tt tt m
still-flow-plan k s st b x i takes ahead (inr p) m =
    let l : LinkView = p.on in
    planned-echo k s st b Stay (Some (flow_link b l)) x i
    (answer-is k s st b (Some l) takes (no-other b p.handle st.links.list l p.names p.called) ahead (named-is b.handle p.handle st.links.list l p.names p.called) (passed-behind b l p.left))
    (leaves-is k s st b st.links.list (links-are b b.handle p.handle st.links.list l (λ m. m) p.names p.called (left-stays b l p.left) ∙ stays-first (has_number l.number) st.links.list))
    tt tt (rw (passed-body (session_after b s).windows b l p.left) m)

pub marks-sending : (m : Marks) (b : FlowBody) (l : LinkView) → l.left ≡ false → with_marks m l ≡ flow_link b l → m.sending ≡ l.sending
marks-sending m b l e h = ap (λ x. x.sending) h ∙ by l.left e
  where
    by : (x : Bool) → x ≡ false → (cond x l (flowed b l)).sending ≡ l.sending
    by false e = refl
    by true e = absurd (cc)

pub told-by : (s t : Session) (x y : LinkView) (body : FlowBody) → body ≡ echo_body s.windows (Some x) → s ≡ t → x ≡ y → body ≡ echo_body t.windows (Some y)
told-by s t x y body h e f = rw (← e, ← f) h

pub link-flow-plan : (k h key : ℕ) (s : Session) (st : StoresView) (b : FlowBody) (l : LinkView) (marks : Marks) (x : Flowing) → IsKept k s st
    → takes_frames (flags_of s) ≡ true → b.handle ≡ Some h → IsFirst (has_peer_handle h) st.links.list l → session_ahead s.begin_sent b s.windows ≡ false
    → is_ahead_of_link b (Some l) ≡ false → with_marks marks l ≡ flow_link b l → marks.sending ≡ l.sending
    → x ≡ record { session = session_after b s; fate = (Marked key l.number marks); echo = sends_echo s.begin_sent b; body = echo_body (session_after b s).windows (Some (flow_link b l)) }
    → IsPlan {E = Violation} (view_of k s st) (flow_answer (view_of k s st) b) (next_flow (view_of k s st) b) (echo_plan x)
link-flow-plan k h key s st b l marks x i takes names called ahead behind m sending q =
    planned-echo k s st b (Marked key l.number marks) (Some (flow_link b l)) x i
    (answer-is k s st b (Some l) takes (no-other b h st.links.list l names called) ahead (named-is b.handle h st.links.list l names called) behind)
    (leaves-is k s st b _ (links-are b b.handle h st.links.list l (with_marks marks) names called (rw m refl)))
    tt (rw sending (shorter k _ (short-found k (has_peer_handle h) st.links.list l i.short called.found))) q
