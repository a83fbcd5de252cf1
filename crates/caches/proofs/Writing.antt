-- A pass that sends the b oldest bytes of a queue to the store and closes the others up: what it keeps, byte by byte.
use mathlib.Core.Path.{◌≡◌, refl, ap, sym, subst, ◌∙◌}
use mathlib.Core.Bool.{true}
use mathlib.Core.List.{List, [], ◌∷◌, ◌++◌, map, map-append, append_assoc, append-nil}
use Prim.Native.Nat.{ℕ, zero, suc, ◌+◌, ◌-◌, ◌/◌, ◌%◌, ◌≤◌, ◌<◌}
use native.Mathlib.Omega.{arith}
use lib.Dec.{eqb, ltb}
use lib.ListN.{length, take, drop, set, get_or, length-append, length-take, length-drop, length-set, take-append-drop}
use lib.Seq.{take-set-le, set-set, take-add, take-append_seam, length-paste, ext_get_or, get_or-drop}
use Rattle.std.specs.List.{copy_within}
use lib.Seq.{take-nil, take_all, length-take-le, take-append-le, drop-cons, set_at, get_or-set_other}
use mir.Val.{bool_byte}
use borrow.Author.Tests.{eq-eqb, eqb-true, eqb-false, ltb-true, ltb-false}
use Rattle.model.specs.State.{Byte, values_of, count_of}
use Rattle.model.specs.Slot.{without, placed}
use Rattle.model.proofs.basics.Tests.{by_test}
use Rattle.model.proofs.basics.Bytes.{values-append}
use Rattle.layout.specs.Entries.{byte_of, bytes_in}
use Rattle.caches.specs.Says.{WroteOut}
use Rattle.layout.proofs.Entries.{bytes-none, bytes-more, bytes-stored}

-- One byte more in the cache: it is one of the n oldest of its queue, or it stays.
without-nil : (n q : ℕ) → without n q [] ≡ []
without-nil zero q = refl
without-nil (suc n) q = refl

without-sent : (n q : ℕ) (xs : List Byte) (y : Byte) → eqb y.queue q ≡ true → count_of q xs < n
    → without n q (xs ++ y ∷ []) ≡ without n q xs
without-sent zero q xs y t h = absurd (omega arith)
without-sent (suc n) q [] y t h = rw t (without-nil n q)
without-sent (suc n) q (x ∷ xs) y t h =
    by_test (eqb x.queue q)
    (λ u. rw u (without-sent n q xs y t (omega (arith, rw u at h))))
    (λ u. rw u (ap (λ (zs : List Byte). x ∷ zs) (without-sent (suc n) q xs y t (rw u at h))))

without-kept : (n q : ℕ) (xs : List Byte) (y : Byte) → (eqb y.queue q ≡ true → n ≤ count_of q xs)
    → without n q (xs ++ y ∷ []) ≡ without n q xs ++ y ∷ []
without-kept zero q xs y h = refl
without-kept (suc n) q [] y h =
    by_test (eqb y.queue q)
    (λ t. absurd (omega (arith, h t)))
    (λ t. rw t)
without-kept (suc n) q (x ∷ xs) y h =
    by_test (eqb x.queue q)
    (λ u. rw u (without-kept n q xs y (λ t. omega (arith, rw u at (h t)))))
    (λ u. rw u (ap (λ (zs : List Byte). x ∷ zs) (without-kept (suc n) q xs y (λ t. rw u at (h t)))))

without-append : (n q : ℕ) (xs ys : List Byte) → n ≤ count_of q xs → without n q (xs ++ ys) ≡ without n q xs ++ ys
without-append zero q xs ys h = refl
without-append (suc n) q [] ys h = absurd (omega arith)
without-append (suc n) q (x ∷ xs) ys h =
    by_test (eqb x.queue q)
    (λ u. rw u (without-append n q xs ys (omega (arith, rw u at h))))
    (λ u. rw u (ap (λ (zs : List Byte). x ∷ zs) (without-append (suc n) q xs ys (rw u at h))))

values-sent : (n q : ℕ) (xs : List Byte) (y : Byte) → eqb y.queue q ≡ true → count_of q xs < n
    → take n (values_of q (xs ++ y ∷ [])) ≡ take n (values_of q xs) ++ y.value ∷ []
values-sent n q xs y t h =
    let all : values_of q (xs ++ y ∷ []) ≡ values_of q xs ++ y.value ∷ [] = values-append q xs (y ∷ []) ∙ rw t in
    let few : length (values_of q xs ++ y.value ∷ []) ≤ n = simp length-append (omega arith) in
    rw (all, take_all n (values_of q xs ++ y.value ∷ []) few, take_all n (values_of q xs) (omega arith))

values-kept : (n q : ℕ) (xs : List Byte) (y : Byte) → (eqb y.queue q ≡ true → n ≤ count_of q xs)
    → take n (values_of q (xs ++ y ∷ [])) ≡ take n (values_of q xs)
values-kept n q xs y h =
    ap (take n) (values-append q xs (y ∷ []))
    ∙ by_test (eqb y.queue q)
    (λ t. rw t (take-append-le n (values_of q xs) (y.value ∷ []) (h t)))
    (λ t. rw t (ap (take n) (append-nil (values_of q xs))))

-- One value more in the store, behind those that were placed.
placed-none : (place : ℕ) (store : List ℕ) → store ≡ placed place [] store
placed-none place store = let e : place + 0 ≡ place = omega arith in rw (e, take-append-drop)

placed-more : (place : ℕ) (vs store : List ℕ) (n v : ℕ) → n ≡ length vs → place + n < length store
    → set (placed place vs store) (place + n) v ≡ placed place (vs ++ v ∷ []) store
placed-more place vs store n v e h =
    let front : length (take place store ++ vs) ≡ place + n = simp (length-append, length-take) (omega arith) in
    let next : place + length (vs ++ v ∷ []) ≡ suc (place + n) = simp length-append (omega arith) in
    let after = drop (suc (place + n)) store in
    let old = get_or store (place + n) 0 in
    rw (← e, next, drop-cons store (place + n) 0 h, ← (append_assoc (take place store) vs (old ∷ after)))
    (set_at (take place store ++ vs) old after v (place + n) front ∙ simp append_assoc)

-- The pass has seen the first i entries: `gone` of them are in the store, the others have closed up.
pub record Passed (n q b place : ℕ) (before store₀ : List ℕ) (after store : List ℕ) (gone i : ℕ) : Type 0 where
  pub within : i ≤ n
  pub gone_le : gone ≤ i
  pub gone_is : gone ≡ length (take b (values_of q (bytes_in i before)))
  pub kept_is : bytes_in (i - gone) after ≡ without b q (bytes_in i before)
  pub rest : (k : ℕ) → i ≤ k → get_or after k 0 ≡ get_or before k 0
  pub stored_is : store ≡ placed place (take b (values_of q (bytes_in i before))) store₀
  pub long : length after ≡ length before
  pub store_long : length store ≡ length store₀

module _ (n q b place : ℕ) (before store₀ : List ℕ) where
  pub pass_starts : Passed n q b place before store₀ before store₀ 0 0
  pass_starts = record {
    within = omega arith;
    gone_le = omega arith;
    gone_is = rw (bytes-none before, take-nil b);
    kept_is = rw (bytes-none before) (sym (without-nil b q));
    rest = λ k l. refl;
    stored_is = rw (bytes-none before, take-nil b) (placed-none place store₀);
    long = refl;
    store_long = refl;
  }

  module _ (h : n ≤ length before) (room : place + b ≤ length store₀) (after store : List ℕ) (gone i : ℕ)
      (w : Passed n q b place before store₀ after store gone i) (l : i < n) where
    abbrev seen : List Byte
    seen = bytes_in i before

    abbrev next : Byte
    next = byte_of (get_or before i 0)

    more : bytes_in (i + 1) before ≡ seen ++ next ∷ []
    more = bytes-more i before (omega arith)

    same : get_or after i 0 ≡ get_or before i 0
    same = w.rest i (omega arith)

    pub pass_sends : get_or after i 0 / 256 ≡ q → gone < b
        → Passed n q b place before store₀ after (set store (place + gone) (get_or after i 0 % 256)) (gone + 1) (i + 1)
    unfolding byte_of
    pass_sends e m =
        let t : eqb next.queue q ≡ true = eq-eqb (get_or before i 0 / 256) q (rw same at e) in
        let few : count_of q seen < b = omega (arith, simp length-take at w.gone_is) in
        let sent : take b (values_of q (bytes_in (i + 1) before)) ≡ take b (values_of q seen) ++ next.value ∷ [] =
        rw more (values-sent b q seen next t few) in
        let d : i + 1 - (gone + 1) ≡ i - gone = omega (arith, w.gone_le) in
        record {
          within = omega arith;
          gone_le = omega (arith, w.gone_le);
          gone_is = rw sent (simp length-append (omega (arith, w.gone_is)));
          kept_is = rw (d, more, without-sent b q seen next t few) w.kept_is;
          rest = λ k g. w.rest k (omega arith);
          stored_is =
              rw (same, sent, w.stored_is)
              (placed-more place (take b (values_of q seen)) store₀ gone next.value w.gone_is (omega arith));
          long = w.long;
          store_long = length-set store (place + gone) (get_or after i 0 % 256) ∙ w.store_long;
        }

    pub pass_keeps : (get_or after i 0 / 256 ≡ q → b ≤ gone)
        → Passed n q b place before store₀ (set after (i - gone) (get_or after i 0)) store gone (i + 1)
    unfolding byte_of
    pass_keeps e =
        let t : (eqb next.queue q ≡ true → b ≤ count_of q seen) =
        (λ u. omega (
          arith,
          simp length-take at w.gone_is,
          e (ap (λ (x : ℕ). x / 256) same ∙ eqb-true (get_or before i 0 / 256) q u),
        )) in
        let sent : take b (values_of q (bytes_in (i + 1) before)) ≡ take b (values_of q seen) =
        rw more (values-kept b q seen next t) in
        let d : i + 1 - gone ≡ i - gone + 1 = omega (arith, w.gone_le) in
        record {
          within = omega arith;
          gone_le = omega (arith, w.gone_le);
          gone_is = rw sent w.gone_is;
          kept_is =
              rw (d, same, more, without-kept b q seen next t, ← w.kept_is)
              (bytes-stored (i - gone) after (omega (arith, w.long)) (get_or before i 0));
          rest = λ k g.
              get_or-set_other after (i - gone) k (get_or after i 0) 0 (λ u. omega (arith, u, g)) ∙ w.rest k (omega arith);
          stored_is = rw sent w.stored_is;
          long = length-set after (i - gone) (get_or after i 0) ∙ w.long;
          store_long = w.store_long;
        }

  -- An entry between those kept and those not yet seen is no part of either.
  pass_spoils : (after store : List ℕ) (gone i : ℕ) → Passed n q b place before store₀ after store gone i
      → (m v : ℕ) → i - gone ≤ m → m < i → Passed n q b place before store₀ (set after m v) store gone i
  unfolding bytes_in
  pass_spoils after store gone i w m v above below = record {
    within = w.within;
    gone_le = w.gone_le;
    gone_is = w.gone_is;
    kept_is = rw (take-set-le (i - gone) after m v above) w.kept_is;
    rest = λ k g. get_or-set_other after m k v 0 (λ e. omega (arith, e, g)) ∙ w.rest k g;
    stored_is = w.stored_is;
    long = length-set after m v ∙ w.long;
    store_long = w.store_long;
  }

  pass_stored : (after store other : List ℕ) (gone i : ℕ) → store ≡ other
      → Passed n q b place before store₀ after store gone i → Passed n q b place before store₀ after other gone i
  pass_stored after store other gone i e w =
      subst (λ (s : List ℕ). Passed n q b place before store₀ after s gone i) e w

  -- The store with the bytes of q among the first i entries, as many of them as a block has.
  abbrev sent_by : ℕ → List ℕ
  sent_by i = placed place (take b (values_of q (bytes_in i before))) store₀

  -- The same pass while the block is not whole: the store may hold anything at the place that comes next.
  pub record Sending (after store : List ℕ) (gone i : ℕ) : Type 0 where
    pub passed : Passed n q b place before store₀ after (sent_by i) gone i
    pub but_next : (v : ℕ) → gone < b → set store (place + gone) v ≡ set (sent_by i) (place + gone) v
    pub whole : gone ≡ b → store ≡ sent_by i
    pub same_store : length store ≡ length store₀

  pub sending_starts : Sending before store₀ 0 0
  sending_starts =
      let e = pass_starts.stored_is in
      record {
        passed = pass_stored before store₀ (sent_by 0) 0 0 e pass_starts;
        but_next = λ v m. ap (λ (s : List ℕ). set s (place + 0) v) e;
        whole = λ l. e;
        same_store = refl;
      }

  module _ (after store : List ℕ) (gone i : ℕ) (w : Sending after store gone i) where
    -- While the block is not whole there is an entry more.
    pub more_to_see : b ≤ count_of q (bytes_in n before) → gone < b → i < n
    more_to_see enough l =
        by_test (ltb i n)
        (λ t. ltb-true i n t)
        (λ t.
        let last : i ≡ n = omega (arith, ltb-false i n t, w.passed.within) in
        absurd (omega (
          arith,
          rw last at w.passed.gone_is,
          length-take-le b (values_of q (bytes_in n before)) enough,
        )))

    -- Once it is, the store is as it is to be.
    pub sending_ends : b ≤ gone → Passed n q b place before store₀ after store gone i
    sending_ends l =
        let all : gone ≡ b = omega (arith, simp length-take at w.passed.gone_is) in
        pass_stored after (sent_by i) store gone i (sym (w.whole all)) w.passed

    pub sending_goes : n ≤ length before → place + b ≤ length store₀ → gone < b → i < n
        → Sending (set after (i - gone) (get_or after i 0)) (set store (place + gone) (get_or after i 0 % 256))
        (gone + bool_byte (eqb (get_or after i 0 / 256) q)) (i + 1)
    sending_goes h room l more =
        let e = get_or after i 0 in
        let after₁ = set after (i - gone) e in
        let store₁ = set store (place + gone) (e % 256) in
        let long = length-set store (place + gone) (e % 256) ∙ w.same_store in
        by_test (eqb (e / 256) q)
        (λ t.
        let sent = pass_sends h room after (sent_by i) gone i w.passed more (eqb-true (e / 256) q t) l in
        let is_sent : store₁ ≡ sent_by (i + 1) = w.but_next (e % 256) l ∙ sent.stored_is in
        rw t record {
          passed =
              pass_spoils after (sent_by (i + 1)) (gone + 1) (i + 1)
              (pass_stored after _ (sent_by (i + 1)) (gone + 1) (i + 1) sent.stored_is sent)
              (i - gone) e (omega arith) (omega arith);
          but_next = λ v m. ap (λ (s : List ℕ). set s (place + (gone + 1)) v) is_sent;
          whole = λ m. is_sent;
          same_store = long;
        })
        (λ t.
        let kept =
        pass_keeps h room after (sent_by i) gone i w.passed more (λ u. absurd (eqb-false (e / 256) q t u)) in
        let none : gone + 0 ≡ gone = omega arith in
        rw (t, none) record {
          passed = pass_stored after₁ (sent_by i) (sent_by (i + 1)) gone (i + 1) kept.stored_is kept;
          but_next = λ v m.
              set-set store (place + gone) (e % 256) v
              ∙ w.but_next v l
              ∙ ap (λ (s : List ℕ). set s (place + gone) v) kept.stored_is;
          whole = λ m. absurd (omega (arith, m));
          same_store = long;
        })

  -- The rest, from place i on, is copied to behind the entries that were kept.
  module _ (h : n ≤ length before) (enough : b ≤ count_of q (bytes_in n before)) (after store : List ℕ) (gone i : ℕ)
      (w : Passed n q b place before store₀ after store gone i) (all_gone : b ≤ gone) where
    abbrev behind : List Byte
    behind = bytes_in (n - i) (drop i before)

    abbrev whole : List ℕ
    whole = copy_within after i n (i - gone)

    is_gone : gone ≡ b
    is_gone = omega (arith, all_gone, simp length-take at w.gone_is)

    seen_first : bytes_in n before ≡ bytes_in i before ++ behind
    unfolding bytes_in
    seen_first =
        let e : i + (n - i) ≡ n = omega (arith, w.within) in
        ap (λ (m : ℕ). bytes_in m before) (sym e)
        ∙ ap (map byte_of) (take-add i (n - i) before)
        ∙ map-append byte_of (take i before) (take (n - i) (drop i before))

    same_rest : drop i after ≡ drop i before
    same_rest =
        ext_get_or 0 (drop i after) (drop i before)
        (simp length-drop (omega (arith, w.long)))
        (λ k l. rw (get_or-drop, get_or-drop) (w.rest (i + k) (omega arith)))

    abbrev kept : List ℕ
    kept = take (i - gone) after

    kept_long : length kept ≡ i - gone
    kept_long = length-take-le (i - gone) after (omega (arith, w.long, w.within))

    abbrev moved : List ℕ
    moved = take (n - i) (drop i after)

    moved_long : length moved ≡ n - i
    moved_long = length-take-le (n - i) (drop i after) (simp length-drop (omega (arith, w.long)))

    first_whole : take (n - b) whole ≡ kept ++ moved
    first_whole =
        let e : n - b ≡ length (kept ++ moved) =
        simp length-append (omega (arith, kept_long, moved_long, is_gone, w.within, w.gone_le)) in
        ap (λ (m : ℕ). take m whole) e ∙ take-append_seam (kept ++ moved) _

    enough_seen : b ≤ count_of q (bytes_in i before)
    enough_seen = omega (arith, is_gone, simp length-take at w.gone_is)

    pub pass_ends : WroteOut n q b place before whole store₀ store
    unfolding bytes_in
    pass_ends = record {
      left =
          ap (map byte_of) first_whole
          ∙ map-append byte_of kept moved
          ∙ ap (λ (xs : List ℕ). bytes_in (i - gone) after ++ map byte_of (take (n - i) xs)) same_rest
          ∙ ap (λ (xs : List Byte). xs ++ behind) w.kept_is
          ∙ sym (rw seen_first (without-append b q (bytes_in i before) behind enough_seen));
      stored_is =
          let same : take b (values_of q (bytes_in n before)) ≡ take b (values_of q (bytes_in i before)) =
          rw (seen_first, values-append q (bytes_in i before) behind)
          (take-append-le b (values_of q (bytes_in i before)) (values_of q behind) enough_seen) in
          w.stored_is ∙ ap (λ (vs : List ℕ). placed place vs store₀) (sym same);
      same_length =
          length-paste after (i - gone) (drop i after) (n - i) (omega (arith, w.long, w.within)) (simp length-drop (omega (arith, w.long)))
          ∙ w.long;
    }
