-- The steps of the search, which keep the invariant. Main results: `inv-wake-lone`, `inv-back`, `inv-accept-test`, `inv-reject-test`,
-- `inv-crossed-test`, `inv-accepted`, `inv-rejected`, `inv-test-next`, `inv-test-none`, `inv-report-later`.
pub mod Back
pub mod TestNone
pub mod ReportLater
pub mod TestNext
pub mod Accepted
pub mod WakeLone
pub mod Tester
pub mod AcceptTest
pub mod Strike
pub mod Again
pub mod Own
pub mod Rejected
pub mod CrossedTest
pub mod Answer
pub mod RejectTest
