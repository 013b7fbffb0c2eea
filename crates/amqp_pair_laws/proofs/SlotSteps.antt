-- Two ends agree on a slot, by each way in which a tight world goes on.
use Rattle.std.proofs.Common.{◌≡◌, ◌⊎◌, ◌&&◌, not, Option, None, Some, List, [], ◌∷◌, cond, inl, inr, refl, sym, ap, ◌∙◌, Bool, true, false, is_some}
use Rattle.amqp_pair_laws.proofs.Slots.{Slot, Act, idle, asks, meets, leaves, goes, no_slot, attached, kept, after, learns, IsLegal, added, Agree}

module _ {H : Type 0} where
  -- an attach that is on its way and y's can be the only one
  record Attached' (s : Slot H) : Type 0 where
    o : H
    t : H
    ours : s.ours ≡ Some o
    theirs : s.theirs ≡ Some t
    stays : s.left ≡ false

  attached-parts : (s : Slot H) → attached s ≡ true → Attached' s
  attached-parts s h = by s.ours s.theirs s.left refl refl refl h
    where
      by : (o t : Option H) (l : Bool) → s.ours ≡ o → s.theirs ≡ t → s.left ≡ l → (is_some o && is_some t) && not l ≡ true → Attached' s
      by (Some o) (Some t) false e f g h = record { o = o; t = t; ours = e; theirs = f; stays = g }
      by (Some o) (Some t) true e f g h = absurd (cc (h))
      by (Some o) None l e f g h = absurd (cc (h))
      by None t l e f g h = absurd (cc (h))

  -- b alone
  pub agree-ahead : (x y : Slot H) (fl : List H) (act : Act H) → learns act ≡ None → IsLegal act y → Agree x y fl → Agree x (after act y) (added act fl)
  agree-ahead x y fl idle deaf legal k = k
  agree-ahead x y fl (asks h) deaf legal k =
      record {
        asked = k.asked;
        met = λ g t l. let m = k.met g t l in let none = legal.0 in let some = m.1 in absurd (cc (none, some));
        one = inr (h, only k.one, refl);
      }
    where
      only : (fl ≡ []) ⊎ ((g : H) × (fl ≡ g ∷ []) × (y.ours ≡ Some g)) → h ∷ fl ≡ h ∷ []
      only (inl e) = ap (λ l. h ∷ l) e
      only (inr e) = let none = legal.0 in let some = e.2 in absurd (cc (none, some))
  agree-ahead x y fl (meets h) deaf legal k = absurd (cc (deaf))
  agree-ahead x y fl leaves deaf legal k = record { asked = k.asked; met = k.met; one = k.one }
  agree-ahead x y fl goes deaf legal k = absurd (cc (deaf))

  -- a alone: it tells nothing
  pub agree-quiet : (x y : Slot H) (fl : List H) (h : H) → x.theirs ≡ None → x.left ≡ false → fl ≡ h ∷ [] → Agree x y fl → Agree (after (meets h) x) y []
  agree-quiet x y fl h free stays is k =
      record { asked = k.asked; met = λ g t l. (refl, his k.one ∙ (let same : h ≡ g = cc t in ap Some same)); one = inl refl }
    where
      his : (fl ≡ []) ⊎ ((g : H) × (fl ≡ g ∷ []) × (y.ours ≡ Some g)) → y.ours ≡ Some h
      his (inl e) = absurd (cc (e, is))
      his (inr e) = let same : e.0 ∷ [] ≡ h ∷ [] = sym e.1 ∙ is in let one : e.0 ≡ h = cc same in e.2 ∙ ap Some one

  -- the link is gone at a, which had left it, or had not yet attached
  pub agree-gone : (x y : Slot H) (fl : List H) → attached x ≡ false → is_some x.theirs ≡ true → Agree x y fl → Agree no_slot y fl
  agree-gone x y fl apart there k = record { asked = by x.ours x.theirs x.left k.asked apart there; met = λ g t l. absurd (cc (t)); one = k.one }
    where
      by : (o t : Option H) (l : Bool) → cond l None o ≡ y.theirs → (is_some o && is_some t) && not l ≡ false → is_some t ≡ true → ◌≡◌ {A = Option H} None y.theirs
      by o t true e h there = e
      by None t false e h there = e
      by (Some o) (Some t) false e h there = absurd (cc (h))
      by (Some o) None false e h there = absurd (cc (there))

  -- a's attach passes
  pub agree-attach : (x y : Slot H) (fl : List H) (h : H) → IsLegal (asks h) x → Agree x y fl → Agree (after (asks h) x) (after (meets h) y) fl
  agree-attach x y fl h legal k = record { asked = (let stays = legal.1 in rw stays refl); met = k.met; one = k.one }

  -- a's detach passes: none of b's attaches was on its way
  pub agree-detach : (x y : Slot H) (fl : List H) (gone : Slot H) → attached x ≡ true → kept gone ≡ None → (gone.left ≡ false → gone.theirs ≡ None) → Agree x y fl → Agree gone no_slot fl
  agree-detach x y fl gone h none clear k =
      let p = attached-parts x h in
      record { asked = none; met = λ g t l. (let c = clear l in absurd (cc (c, t))); one = inl (k.met p.t p.theirs p.stays).0 }
