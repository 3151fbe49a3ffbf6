pub mod Look
pub mod Supposed
pub mod Chain
pub mod Outlook
