-- Frames as lists: what two ends have heard of each other is the front of what they sent.
use Rattle.std.proofs.Common.{zero, suc, ℕ, ◌≡◌, ◌≤◌, ◌<◌, ◌+◌, ◌==◌, Bool, true, false, cond, Option, None, Some, List, [], ◌∷◌, ◌++◌, length, reverse, filter, map, is_some, inl, inr, arith, refl, sym, ap, ◌∙◌, subst, length-append, add-one, append_assoc}
use Rattle.std.specs.Option.{option_to_list}
use Rattle.std.proofs.lemmas.List.Elements.{filter-append}
use Rattle.std.proofs.lemmas.List.{reverse-append, append-nil}
use Rattle.amqp_frames.specs.declared.frame.Frame.{Frame}
use Rattle.amqp_rules.specs.declared.config.Config.{Config}
use Rattle.amqp_rules.specs.declared.reply.Sent.{Sent}
use Rattle.amqp_rules.specs.Sound.{Every}
use Rattle.amqp_laws.specs.declared.entry.Entry.{Entry}
use Rattle.amqp_laws.specs.Past.{past}
use Rattle.amqp_pair_laws.specs.Moves.{IsNext, and_one, count, said_as}
use Rattle.amqp_pair_laws.specs.World.{IsFair, World, frame_among, hears, sends}
use Rattle.amqp_world.specs.Octets.{frames_heard, frames_sent, has_body}

by-bool : {P : Type 0} (b : Bool) → (b ≡ true → P) → (b ≡ false → P) → P
by-bool true t f = t refl
by-bool false t f = f refl

-- # What is said, the oldest first

module _ {E : Type 0} (says : E → Option Frame) where
  abbrev pub said : List E → List Frame
  said [] = []
  said (e ∷ before) = said before ++ option_to_list (says e)

  abbrev pub told : List E → List Frame
  told [] = []
  told (e ∷ after) = option_to_list (says e) ++ told after

  said-both : (xs ys : List E) → said (xs ++ ys) ≡ said ys ++ said xs
  said-both [] ys = sym (append-nil (said ys))
  said-both (x ∷ xs) ys = ap (λ (s : List Frame). s ++ option_to_list (says x)) (said-both xs ys) ∙ append_assoc (said ys) (said xs) (option_to_list (says x))

  pub said-back : (xs : List E) → said (reverse xs) ≡ told xs
  said-back [] = refl
  said-back (x ∷ xs) =
      ap said (reverse-append (x ∷ []) xs) ∙ said-both (reverse xs) (x ∷ []) ∙ ap (λ (s : List Frame). option_to_list (says x) ++ s) (said-back xs)

  said-count : (past : List E) → length (said past) ≡ count says past
  said-count [] = refl
  said-count (e ∷ before) = length-append (said before) (option_to_list (says e)) ∙ by (says e) (said-count before)
    where
      by : (o : Option Frame) → length (said before) ≡ count says before → length (said before) + length (option_to_list o) ≡ and_one o (count says before)
      by None h = let k = h in omega (arith, k)
      by (Some f) h = let k = h in omega (arith, k)

  -- where a frame is said as number n, n frames are said before it
  pub record IsThere (n : ℕ) (past : List E) (f : Frame) : Type 0 where
    pub front : List Frame
    pub back : List Frame
    pub parts : said past ≡ front ++ f ∷ back
    pub number : length front ≡ n

  there : (n : ℕ) (past : List E) (f : Frame) → said_as says n past ≡ Some f → IsThere n past f
  there n [] f h = absurd (cc (h))
  there n (e ∷ before) f h =
      by-bool (count says before == n)
      (λ (t : (count says before == n) ≡ true).
      let k = rw t at h in
      record { front = said before; back = []; parts = ap (λ (o : Option Frame). said before ++ option_to_list o) k; number = said-count before ∙ same (count says before) n t })
      (λ (u : (count says before == n) ≡ false).
      let k = rw u at h in
      let x = there n before f k in
      record {
        front = x.front;
        back = x.back ++ option_to_list (says e);
        parts = ap (λ (s : List Frame). s ++ option_to_list (says e)) x.parts ∙ append_assoc x.front (f ∷ x.back) (option_to_list (says e));
        number = x.number;
      })
    where
      same : (m n : ℕ) → (m == n) ≡ true → m ≡ n
      same m n h = grind (arith, h)

-- # Fronts

-- two ways to cut a list at one place
cut-once : (xs ys : List Frame) (f : Frame) (us vs : List Frame) → xs ++ us ≡ ys ++ f ∷ vs → length xs ≡ length ys → us ≡ f ∷ vs
cut-once [] [] f us vs e n = e
cut-once [] (y ∷ ys) f us vs e n = absurd (omega (arith, n))
cut-once (x ∷ xs) [] f us vs e n = absurd (omega (arith, n))
cut-once (x ∷ xs) (y ∷ ys) f us vs e n = let tails : xs ++ us ≡ ys ++ f ∷ vs = cc e in let fewer : length xs ≡ length ys = omega (arith, n) in cut-once xs ys f us vs tails fewer

pub record IsFrontOf (xs ys : List Frame) : Type 0 where
  pub rest : List Frame
  pub parts : ys ≡ xs ++ rest

longer-front : (xs ys zs : List Frame) → IsFrontOf xs ys → IsFrontOf xs (ys ++ zs)
longer-front xs ys zs f = record { rest = f.rest ++ zs; parts = ap (λ (s : List Frame). s ++ zs) f.parts ∙ append_assoc xs f.rest zs }

-- one frame more is heard, or none
one-more : (a before : List Entry) (o : Option Frame) → IsNext sends hears IsFair o before a → IsFrontOf (said hears before) (said sends a) → IsFrontOf (said hears before ++ option_to_list o) (said sends a)
one-more a before None is f = record { rest = f.rest; parts = f.parts ∙ ap (λ (s : List Frame). s ++ f.rest) (sym (append-nil (said hears before))) }
one-more a before (Some g) is f =
    let x = there sends (count hears before) a g is in
    let here : f.rest ≡ g ∷ x.back = cut-once (said hears before) x.front g f.rest x.back (sym f.parts ∙ x.parts) (said-count hears before ∙ sym x.number) in
    record { rest = x.back; parts = f.parts ∙ ap (λ (s : List Frame). said hears before ++ s) here ∙ sym (append_assoc (said hears before) (g ∷ []) x.back) }

-- what b heard is a front of what a sent
pub heard-front : (ca cb : Config) (n : ℕ) (a b : List Entry) → World ca cb n a b → IsFrontOf (said hears b) (said sends a)
heard-front ca cb zero [] [] w = record { rest = []; parts = refl }
heard-front ca cb zero (e ∷ a) b w = absurd w.0
heard-front ca cb zero [] (e ∷ b) w = absurd w.1
heard-front ca cb (suc n) [] b (inl w) = absurd w
heard-front ca cb (suc n) (e ∷ before) b (inl w) = longer-front (said hears b) (said sends before) (option_to_list (sends e)) (heard-front ca cb n before b w.0)
heard-front ca cb (suc n) a [] (inr w) = absurd w
heard-front ca cb (suc n) a (e ∷ before) (inr w) = one-more a before (hears e) w.1.next (heard-front ca cb n a before w.0)

-- # What was sent

one-body : (sent : List Sent) → length sent ≤ 1 → filter has_body (map (λ s. s.frame) sent) ≡ option_to_list (frame_among sent)
one-body [] few = refl
one-body (s ∷ []) few = by (is_some s.frame.body)
  where
    by : (b : Bool) → cond b (s.frame ∷ []) [] ≡ option_to_list (cond b (Some s.frame) None)
    by true = refl
    by false = refl
one-body (s ∷ s' ∷ sent) few = absurd (omega (arith, few))

-- where each reply sends one frame at most, those with a body are what was said
pub bodies-said : (journal : List Entry) → Every (λ e. length e.reply.sent ≤ 1) journal → filter has_body (frames_sent journal) ≡ told sends journal
bodies-said [] few = refl
bodies-said (e ∷ journal) few =
    filter-append has_body (map (λ s. s.frame) e.reply.sent) (frames_sent journal) ∙ ap (λ (s : List Frame). s ++ filter has_body (frames_sent journal)) (one-body e.reply.sent few.0)
    ∙ ap (λ (s : List Frame). option_to_list (sends e) ++ s) (bodies-said journal few.1)

pub heard-told : (journal : List Entry) → frames_heard journal ≡ told hears journal
heard-told [] = refl
heard-told (e ∷ journal) = ap (λ (s : List Frame). option_to_list (hears e) ++ s) (heard-told journal)
