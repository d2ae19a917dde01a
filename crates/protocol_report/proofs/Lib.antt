-- The step of a Report that is sent, which keeps the invariant. Main result: `inv-report-now`.
pub mod Settled
pub mod ReportNow
